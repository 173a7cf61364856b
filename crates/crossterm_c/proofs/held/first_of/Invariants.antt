use Rattle.std.proofs.Common.{◌≡◌, ◌<◌, ℕ, false, get_or}
use Rattle.crossterm_c.specs.Held.{admits}
use Rattle.crossterm_c.specs.declared.held.GelvanhHeld.{GelvanhHeld}
use Rattle.crossterm_c.proofs.held.first_of.Given as goal

-- None before this one is admitted.
abbrev pub invariant-loop-place : goal.invariant-loop-place
invariant-loop-place l = (k : ℕ) (d : GelvanhHeld) → k < l.place → admits l.classes (get_or l.held k d) ≡ false
