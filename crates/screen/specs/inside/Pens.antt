-- A pen: the bytes that wait in it to be written.
use Rattle.std.specs.Prelude.{◌≡◌, ℕ, List, ◌++◌, Option, Some, None}
use Rattle.std.specs.Io.KnownBytes.{Appends}
use Rattle.crossterm_command.specs.Tokens.{text_of}
use Rattle.crossterm_command.specs.Writing.{AppendsFront}
use Rattle.crossterm_command.specs.declared.fault.CommandFault.{CommandFault}
use Rattle.screen.specs.declared.pens.Pen.{Pen}
use Rattle.screen.specs.declared.strokes.Stroke.{Stroke}
use Rattle.screen.specs.inside.Strokes.{written_of}

-- A text is appended to bytes that wait, some of which may be written now. Nothing is written after the first fault,
-- and at it a prefix.
abbrev pub PassesOn : List ℕ → Option CommandFault → List ℕ → Option (List ℕ) → Option (List ℕ) → List ℕ → Option CommandFault → Type 0
PassesOn waiting None text old new later None = (sent : List ℕ) × (waiting ++ text ≡ sent ++ later) × Appends old new sent
PassesOn waiting None text old new later (Some e) = AppendsFront old new (waiting ++ text)
PassesOn waiting (Some e) text old new later None = ⊥
PassesOn waiting (Some e) text old new later (Some f) = new ≡ old

-- A text is appended to the pen's waiting bytes, some of which may be written now. The pen writes as before.
abbrev pub PutsText : List ℕ → Option (List ℕ) → Pen → Option (List ℕ) → Pen → Type 0
PutsText text old pen new next =
    (next.colors ≡ pen.colors) × (next.in_row ≡ pen.in_row) × PassesOn pen.waiting.bytes pen.fault text old new next.waiting.bytes next.fault

-- The same of the strokes' text.
abbrev pub PutsStrokes : List Stroke → Option (List ℕ) → Pen → Option (List ℕ) → Pen → Type 0
PutsStrokes strokes old pen new next = PutsText (text_of (written_of pen.in_row pen.colors strokes)) old pen new next

-- The last bytes were written, and there was no fault before.
abbrev pub Ends : List ℕ → Option CommandFault → Option (List ℕ) → Option (List ℕ) → Type 0
Ends waiting None old new = Appends old new waiting
Ends waiting (Some e) old new = ⊥

-- A prefix of the last bytes was written, or nothing if there was a fault before.
abbrev pub Breaks : List ℕ → Option CommandFault → Option (List ℕ) → Option (List ℕ) → Type 0
Breaks waiting None old new = AppendsFront old new waiting
Breaks waiting (Some e) old new = new ≡ old
