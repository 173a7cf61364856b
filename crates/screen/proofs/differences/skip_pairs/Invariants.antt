-- The cells before the place are the same.
use Rattle.std.proofs.Common.{◌≡◌, ◌<◌, ◌≤◌, ◌-◌, ℕ, get_or, length}
use Rattle.screen.specs.Cells.{blank}
use Rattle.screen.proofs.differences.skip_pairs.Given as goal

abbrev pub invariant-loop-at : goal.invariant-loop-at
invariant-loop-at l = record {
  from : l.from ≤ l.at;
  bound : l.at ≤ length l.after;
  same : (k : ℕ) → l.from ≤ k → k < l.at → get_or l.before k blank ≡ get_or l.after k blank;
}

abbrev pub decreases-loop-at : goal.decreases-loop-at
decreases-loop-at l = length l.after - l.at
