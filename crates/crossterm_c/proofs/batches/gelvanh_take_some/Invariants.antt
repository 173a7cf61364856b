use Rattle.std.proofs.Common.{◌≡◌, ◌≤◌, ◌-◌, drop, length, take}
use Rattle.crossterm_c.specs.Held.{TakesEach, held_in}
use Rattle.crossterm_c.proofs.batches.gelvanh_take_some.Given as goal

-- The events so far were taken.
abbrev pub invariant-loop-count : goal.invariant-loop-count
invariant-loop-count l = record {
  within : l.count ≤ length l.taken;
  takes : TakesEach l.classes (held_in l.fn.reader l.fn.table) (take l.count l.taken) (held_in l.reader l.table);
  arrivals : l.reader.arrivals ≡ l.fn.reader.arrivals;
  rest : drop l.count l.taken ≡ drop l.count l.fn.taken;
  room : length l.taken ≡ length l.fn.taken;
  none : l.count ≡ 0 → (l.reader ≡ l.fn.reader) × (l.table ≡ l.fn.table);
}

abbrev pub decreases-loop-count : goal.decreases-loop-count
decreases-loop-count l = length l.taken - l.count
