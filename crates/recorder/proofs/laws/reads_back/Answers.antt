use Rattle.recorder.proofs.ReadBack.{all_read_back, lines_read_back}
use Rattle.recorder.proofs.laws.reads_back.Goals as goal

pub returns-clause-recordings : goal.returns-clause-recordings
returns-clause-recordings c = all_read_back

pub returns-clause-acts : goal.returns-clause-acts
returns-clause-acts c = lines_read_back
