-- Up to the place the cells are the same.
use Rattle.std.proofs.Common.{◌≡◌, ℕ, ◌<◌, ◌≤◌, get_or}
use Rattle.screen.specs.Cells.{blank}
use Rattle.screen.proofs.differences.find_difference.Given as goal

abbrev pub invariant-loop-at : goal.invariant-loop-at
invariant-loop-at l = (k : ℕ) → l.from ≤ k → k < l.at → get_or l.before k blank ≡ get_or l.after k blank
