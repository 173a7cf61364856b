use Rattle.recorder.proofs.Acting.{answers_as_recorded, records_lines}
use Rattle.recorder.proofs.laws.answers_as_recorded.Goals as goal

pub returns-clause-recorded : goal.returns-clause-recorded
returns-clause-recorded g c = answers_as_recorded _

pub returns-clause-lines : goal.returns-clause-lines
returns-clause-lines g c = records_lines
