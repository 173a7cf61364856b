use Rattle.std.proofs.Common.{◌≤◌}
use Rattle.crossterm_read.proofs.Asking.{Asking}
use Rattle.crossterm_read.specs.Device.{AsksAtOnce}
use Rattle.crossterm_read.specs.Store.{reader_capacity}
use Rattle.crossterm_read.proofs.read.patience.TriesPatience.ask.Given as goal

abbrev pub invariant-loop-i : goal.invariant-loop-i
invariant-loop-i g l = record {
  so_far : Asking g.row.A.Denot g.S.EventSource.drawn g.S.EventSource.failed g.met.S.EventSource.drawn_on l.at_wake (g.F.Filter.admits l.filter) l.fn.reader l.reader l._i;
  limits : AsksAtOnce (g.S.EventSource.asked l.fn.reader.source) (g.S.EventSource.asked l.reader.source);
  room : reader_capacity l.fn.reader ≤ reader_capacity l.reader;
  rise : g.S.EventSource.failed l.fn.reader.source ≤ g.S.EventSource.failed l.reader.source;
}
