use Rattle.crossterm_read.proofs.Scripts.{scripts_replay}
use Rattle.crossterm_read.proofs.laws.scripts_replay.Goals as goal

pub returns : goal.returns
returns c = scripts_replay
