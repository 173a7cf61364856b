-- An update that a terminal shows at once.
use Rattle.std.specs.Prelude.{ℕ, List, Option, ◌⊎◌}
use Rattle.std.specs.Io.KnownBytes.{Appends}
use Rattle.crossterm_command.specs.Writing.{AppendsFront}
use Rattle.crossterm_command.specs.Controls.{reset, set}
use Rattle.crossterm_command.specs.Tokens.{text_of}

-- The writer grew by the beginning of an update, made a step, and grew by its end.
abbrev pub Synchronized : {W : Type 0} → (W → Option (List ℕ)) → (W → W → Type 0) → W → W → Type 0
Synchronized {W} held step old new = (begun : W) × (left : W) × Appends (held old) (held begun) (text_of (set "2026")) × step begun left
    × Appends (held left) (held new) (text_of (reset "2026"))

-- It stopped in the beginning of an update, before the step; or in its end, after the step.
abbrev pub StopsSynchronized : {W R : Type 0} → (W → Option (List ℕ)) → (W → R → W → Type 0) → W → W → Type 0
StopsSynchronized {W} {R} held step old new = AppendsFront (held old) (held new) (text_of (set "2026"))
    ⊎ ((begun : W) × (outcome : R) × (left : W) × Appends (held old) (held begun) (text_of (set "2026")) × step begun outcome left
    × AppendsFront (held left) (held new) (text_of (reset "2026")))
