use Rattle.recorder.proofs.Replayings.{histories_replay}
use Rattle.recorder.proofs.laws.histories_replay.Goals as goal

pub returns : goal.returns
returns g c = histories_replay c.scripts_replay.ensures c.histories_over_scripts.ensures g.W.Write.contents g.D.Device.answering
