use Rattle.recorder.proofs.Tearing.{cuts_keep, failures_tear, fronts_read}
use Rattle.recorder.proofs.laws.stops.Goals as goal

pub returns-clause-texts : goal.returns-clause-texts
returns-clause-texts g c = fronts_read

pub returns-clause-cut : goal.returns-clause-cut
returns-clause-cut g c = cuts_keep g.W.Write.contents g.D.Device.answering.answered

pub returns-clause-failed : goal.returns-clause-failed
returns-clause-failed g c = failures_tear g.W.Write.contents g.D.Device.answering.answered
