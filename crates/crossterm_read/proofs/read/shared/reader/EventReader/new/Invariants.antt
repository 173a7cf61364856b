use Rattle.crossterm_read.proofs.read.shared.reader.EventReader.new.Given as goal

abbrev pub ghosts-new : goal.ghosts-new
ghosts-new g a = record { others = a.others }
