use Rattle.crossterm_read.specs.Entries.{IsRead}
use Rattle.crossterm_read.specs.inside.Replies.{read_reply}
use Rattle.crossterm_read.proofs.read.shared.reader.EventReader.read_by.Given as goal

abbrev pub ghosts-put : goal.ghosts-put
ghosts-put g a = record { made = IsRead g.S.EventSource.asked a._about.now.0 (read_reply a._about.now.1.now) }
