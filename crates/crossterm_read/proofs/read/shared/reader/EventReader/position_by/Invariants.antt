use Rattle.std.proofs.Common.{Some}
use Rattle.std.specs.Duration.{as_nanos}
use Rattle.crossterm_read.specs.Entries.{IsPosition}
use Rattle.crossterm_read.specs.inside.Replies.{read_reply}
use Rattle.crossterm_read.proofs.read.shared.reader.EventReader.position_by.Given as goal

abbrev pub ghosts-put : goal.ghosts-put
ghosts-put g a = record {
  made = IsPosition g.S.EventSource.asked (Some a._about.now.0) (as_nanos a._about.now.1) (g.C.Clock.latest a._about.now.2.now) (read_reply a._about.now.3.now);
}
