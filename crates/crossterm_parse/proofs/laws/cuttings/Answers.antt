use Rattle.crossterm_parse.proofs.CuttingLaws as laws
use Rattle.crossterm_parse.proofs.laws.cuttings.Goals as goal

pub returns-clause-alike : goal.returns-clause-alike
returns-clause-alike c = laws.cuts_alike

pub returns-clause-empty : goal.returns-clause-empty
returns-clause-empty c = laws.empty_does_nothing
