use Rattle.crossterm_types.specs.declared.event.filter.AnyFilter.TheVariants as filters
use Rattle.crossterm_read.specs.Entries.{IsTry}
use Rattle.crossterm_read.specs.inside.Replies.{try_reply}
use Rattle.crossterm_read.proofs.read.shared.reader.EventReader.try_read.Given as goal

abbrev pub ghosts-put : goal.ghosts-put
ghosts-put g a = record { made = IsTry g.S.EventSource.asked filters.Event (try_reply a._about.now) }
