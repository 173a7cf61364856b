use Rattle.std.proofs.Common.{◌∙◌}
use Rattle.crossbeam_queue.specs.Passes.{view}
use Rattle.crossterm_read.specs.PassViews.{knows}
use Rattle.crossterm_read.proofs.Sharing.{some_there, meets_of, sits_met, last_met}
use Rattle.crossterm_read.proofs.read.shared.reader.EventReader.meet.Goals as goal

pub meet-requires-clause-opened : goal.meet-requires-clause-opened
meet-requires-clause-opened g c = some_there _ c.args.one.now.sits.opened

pub invariant_of-one : goal.invariant_of-one
invariant_of-one g c = record {
  clear = c.meet.ensures.slot_pass.2 ∙ c.args.one.now.clear;
  sits = sits_met g.S.EventSource.drawn (knows c.args.one.now) (knows c.args.other) (view c.meet.new.one) c.meet.ensures.taught c.args.one.now.sits c.meet.ensures.learnt;
  taken = last_met c.args.one.now.last (knows c.args.one.now) (knows c.args.other) (view c.meet.new.one) c.meet.ensures.taught c.args.one.now.taken;
}

pub returns-clause-meets : goal.returns-clause-meets
returns-clause-meets g c = meets_of g.S.EventSource.drawn (knows c.args.one.now) (knows c.args.other) (view c.meet.new.one) c.meet.ensures.taught c.meet.ensures.learnt
