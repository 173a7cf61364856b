use Rattle.crossterm_read.proofs.Scripts.{histories_over_scripts}
use Rattle.crossterm_read.proofs.laws.histories_over_scripts.Goals as goal

pub returns : goal.returns
returns c = histories_over_scripts
