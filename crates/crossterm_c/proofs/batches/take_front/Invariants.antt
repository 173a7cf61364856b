use Rattle.std.proofs.Common.{◌≡◌, ◌≤◌, ◌-◌, drop, length, take}
use Rattle.crossterm_c.specs.Held.{TakesEach}
use Rattle.crossterm_c.proofs.batches.take_front.Given as goal

-- The events before this one were taken.
abbrev pub invariant-loop-count : goal.invariant-loop-count
invariant-loop-count l = record {
  within : l.count ≤ l.most;
  takes : TakesEach l.classes (take l.held (drop l.first l.table)) (take l.count l.taken) (drop l.count (take l.held (drop l.first l.table)));
  rest : drop l.count l.taken ≡ drop l.count l.initial.taken;
  room : length l.taken ≡ length l.initial.taken;
}

abbrev pub decreases-loop-count : goal.decreases-loop-count
decreases-loop-count l = l.most - l.count
