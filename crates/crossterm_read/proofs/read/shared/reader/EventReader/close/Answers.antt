use Rattle.std.proofs.Common.{◌∙◌}
use Rattle.crossterm_read.proofs.Sharing.{some_there, closed_as, closed_none, closed_sits, closed_last}
use Rattle.crossterm_read.specs.PassViews.{knows}
use Rattle.crossbeam_queue.specs.Passes.{view}
use Rattle.crossterm_read.proofs.read.shared.reader.EventReader.close.Goals as goal

pub emptied-requires-clause-opened : goal.emptied-requires-clause-opened
emptied-requires-clause-opened g c = some_there _ c.args.pass.now.sits.opened

pub invariant_of-pass : goal.invariant_of-pass
invariant_of-pass g c = record {
  clear = c.emptied.ensures.slot_pass.2 ∙ c.args.pass.now.clear;
  sits = closed_sits g.S.EventSource.drawn c.emptied.result (knows c.args.pass.now) (view c.emptied.new.slot_pass) c.args.pass.now.sits c.emptied.ensures.taken c.emptied.ensures.same;
  taken = closed_last g.S.EventSource.drawn c.emptied.result c.args.pass.now.last (knows c.args.pass.now) (view c.emptied.new.slot_pass) c.args.pass.now.taken c.emptied.ensures.taken c.emptied.ensures.same;
}

pub returns-clause-closed : goal.returns-clause-closed
returns-clause-closed g c = closed_as g.S.EventSource.drawn c.emptied.result (knows c.args.pass.now) (view c.emptied.new.slot_pass) c.emptied.ensures.taken

pub returns-clause-shared : goal.returns-clause-shared
returns-clause-shared g c = closed_none g.S.EventSource.drawn _ c.emptied.result (knows c.args.pass.now) (view c.emptied.new.slot_pass) (c.emptied.ensures.slot_pass.0 ∙ c.requires.0) c.requires.1 c.emptied.ensures.same
