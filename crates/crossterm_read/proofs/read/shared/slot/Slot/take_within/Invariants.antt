use Rattle.std.proofs.Common.{◌≡◌, ◌≤◌}
use Rattle.crossbeam_queue.specs.Passes.{view, IsSamePass}
use Rattle.crossterm_types.specs.Timing.{KeepsFirst}
use Rattle.crossterm_read.proofs.read.shared.slot.Slot.take_within.Given as goal

abbrev pub invariant-loop : goal.invariant-loop
invariant-loop g l = record {
  slot_pass : IsSamePass l.fn.slot_pass l.slot_pass;
  same : view l.slot_pass ≡ view l.fn.slot_pass;
  later : g.C.Clock.latest l.fn.clock ≤ g.C.Clock.latest l.clock;
  first : KeepsFirst g.C.Clock.began l.fn.clock l.clock;
  can : (goal.iterator-loop g).can_next l.iterator';
  ends : (goal.iterator-loop g).is_finite l.iterator';
}
