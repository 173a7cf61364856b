use Rattle.crossterm_read.proofs.Results.{one_result, one_shown}
use Rattle.crossterm_read.proofs.laws.one_result.Goals as goal

pub returns-clause-result : goal.returns-clause-result
returns-clause-result c = one_result

pub returns-clause-shown : goal.returns-clause-shown
returns-clause-shown c = one_shown
