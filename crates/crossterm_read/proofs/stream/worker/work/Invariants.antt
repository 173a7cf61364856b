use Rattle.crossterm_read.specs.PassViews.{knows}
use Rattle.crossterm_read.specs.Shared.{IsPassOf}
use Rattle.crossterm_read.specs.Streams.{OnlyPolls}
use Rattle.crossterm_read.proofs.stream.worker.work.Given as goal

abbrev pub invariant-loop : goal.invariant-loop
invariant-loop g l = record {
  ours : IsPassOf l.reader l.pass;
  polls : OnlyPolls g.S.EventSource.drawn g.S.EventSource.asked (knows l.fn.pass) (knows l.pass);
  can : (goal.iterator-loop g).can_next l.iterator';
  ends : (goal.iterator-loop g).is_finite l.iterator';
}
