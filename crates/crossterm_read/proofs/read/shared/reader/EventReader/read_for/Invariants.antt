use Rattle.std.specs.Duration.{as_nanos}
use Rattle.crossterm_types.specs.declared.event.filter.AnyFilter.TheVariants as filters
use Rattle.crossterm_read.specs.inside.Replies.{IsReadOrPoll}
use Rattle.crossterm_read.proofs.read.shared.reader.EventReader.read_for.Given as goal

abbrev pub ghosts-put : goal.ghosts-put
ghosts-put g a = record {
  made = IsReadOrPoll g.S.EventSource.asked filters.Event a._about.now.0 (as_nanos a._about.now.1) (g.C.Clock.latest a._about.now.2.now) a._about.now.3.now;
}
