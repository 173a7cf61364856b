use Rattle.std.proofs.Common.{◌≡◌, ◌≤◌, ℕ}
use Rattle.crossterm_types.specs.Timing.{KeepsFirst}
use Rattle.crossterm_read.specs.Device.{AsksEach, IsAtOnce}
use Rattle.crossterm_read.specs.Store.{reader_capacity}
use Rattle.crossterm_read.proofs.Asking.{Asking}
use Rattle.crossterm_read.proofs.Waiting.{WasSomeLeft}
use Rattle.crossterm_read.proofs.read.patience.InTimePatience.ask.Given as goal

abbrev pub invariant-loop : goal.invariant-loop
invariant-loop g l = record {
  so_far : (n : ℕ) × Asking g.row.A.Denot g.S.EventSource.drawn g.S.EventSource.failed g.met.S.EventSource.drawn_on l.at_wake (g.F.Filter.admits l.filter) l.fn.reader l.reader n × (IsAtOnce l.self.timeout.limit → n ≡ 0);
  later : g.C.Clock.latest l.fn.clock ≤ g.C.Clock.latest l.clock;
  first : KeepsFirst g.C.Clock.began l.fn.clock l.clock;
  limits : AsksEach (WasSomeLeft l.self.timeout (g.C.Clock.latest l.clock)) (g.S.EventSource.asked l.fn.reader.source) (g.S.EventSource.asked l.reader.source);
  room : reader_capacity l.fn.reader ≤ reader_capacity l.reader;
  rise : g.S.EventSource.failed l.fn.reader.source ≤ g.S.EventSource.failed l.reader.source;
  can : (goal.iterator-loop g).can_next l.iterator';
  ends : (goal.iterator-loop g).is_finite l.iterator';
}
