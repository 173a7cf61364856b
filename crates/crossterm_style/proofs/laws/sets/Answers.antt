use Rattle.crossterm_style.proofs.SetLaws as law
use Rattle.crossterm_style.proofs.laws.sets.Goals as goal

pub returns-clause-one : goal.returns-clause-one
returns-clause-one c = law.one
