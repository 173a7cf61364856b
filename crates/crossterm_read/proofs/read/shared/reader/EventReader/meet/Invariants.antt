use Rattle.crossbeam_queue.specs.Passes.{view}
use Rattle.crossterm_read.proofs.read.shared.reader.EventReader.meet.Given as goal

abbrev pub ghosts-meet : goal.ghosts-meet
ghosts-meet g a = record { left = view a.other }
