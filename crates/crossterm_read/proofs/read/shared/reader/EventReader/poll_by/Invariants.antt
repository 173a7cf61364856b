use Rattle.std.specs.Duration.{as_nanos}
use Rattle.crossterm_read.specs.Entries.{IsPoll}
use Rattle.crossterm_read.specs.Replies.{poll_reply, replied}
use Rattle.crossterm_read.proofs.read.shared.reader.EventReader.poll_by.Given as goal

abbrev pub ghosts-put : goal.ghosts-put
ghosts-put g a = record {
  made = IsPoll g.S.EventSource.asked a._about.now.0 a._about.now.1 (as_nanos a._about.now.2) (g.C.Clock.latest a._about.now.3.now) (replied (poll_reply a._about.now.4.now));
}
