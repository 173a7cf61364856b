use Rattle.std.proofs.Common.{◌≡◌, ◌-◌, All, map}
use Rattle.std.specs.List.{range_with_len}
use Rattle.crossbeam_queue.specs.Passes.{view}
use Rattle.crossbeam_queue.specs.Passes as queue
use Rattle.crossterm_read.specs.Store.{ReaderState}
use Rattle.crossterm_read.specs.inside.Slot.{first_pass}
use Rattle.crossterm_read.specs.History.{opened}
use Rattle.crossterm_read.specs.PassViews.{IsInSlot, knows, pass_number}
use Rattle.crossterm_read.proofs.read.shared.slot.Slot.passes.Given as goal

abbrev pub invariant-loop : goal.invariant-loop
invariant-loop g l = record {
  slot_pass : queue.IsPassOf l.self.queue l.first;
  left : (o : ReaderState g.row.S.Denot) → view l.fn.first ≡ first_pass o (l.passes - 1) (l.passes - 1) → view l.first ≡ first_pass o (l.passes - 1) (l.passes - l.counter);
  numbers : map pass_number l.made.items ≡ range_with_len 1 (l.counter - 1);
  made : (o : ReaderState g.row.S.Denot) → view l.fn.first ≡ first_pass o (l.passes - 1) (l.passes - 1) → All (λ p. IsInSlot l.self.queue p × (knows p ≡ opened o l.passes (pass_number p))) l.made.items;
}
