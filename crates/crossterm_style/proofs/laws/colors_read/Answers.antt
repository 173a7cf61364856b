use Rattle.crossterm_style.proofs.ReadingLaws as readings
use Rattle.crossterm_style.proofs.laws.colors_read.Goals as goal

pub returns-clause-color : goal.returns-clause-color
returns-clause-color c = readings.one_color
