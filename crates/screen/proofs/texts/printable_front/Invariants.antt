-- The bytes before the place are printable.
use Rattle.std.proofs.Common.{ℕ, ◌<◌, ◌≤◌, ◌-◌, get_or, length}
use Rattle.screen.specs.inside.Ascii.{IsPrintableAscii}
use Rattle.screen.proofs.texts.printable_front.Given as goal

abbrev pub invariant-loop-count : goal.invariant-loop-count
invariant-loop-count l = record {
  few : l.count ≤ l.most;
  inside : l.count ≤ length l.bytes;
  printable : (k : ℕ) → k < l.count → IsPrintableAscii (get_or l.bytes k 0);
}

abbrev pub decreases-loop-count : goal.decreases-loop-count
decreases-loop-count l = l.most - l.count
