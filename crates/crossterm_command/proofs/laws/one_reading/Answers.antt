use Rattle.crossterm_command.proofs.TokenLaws as laws
use Rattle.crossterm_command.proofs.laws.one_reading.Goals as goal

pub returns-clause-apart : goal.returns-clause-apart
returns-clause-apart c = laws.none_begins_another

pub returns-clause-one : goal.returns-clause-one
returns-clause-one c = laws.one_reading
