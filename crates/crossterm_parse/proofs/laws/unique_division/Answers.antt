use Rattle.crossterm_parse.specs.Grammar.{Whole}
use Rattle.crossterm_parse.proofs.DivisionLaws as laws
use Rattle.crossterm_parse.proofs.GrammarLaws.{nil_not_whole, whole_closes, whole_or_not}
use Rattle.crossterm_parse.proofs.laws.unique_division.Goals as goal

pub returns-clause-closed : goal.returns-clause-closed
returns-clause-closed c = whole_closes

pub returns-clause-some : goal.returns-clause-some
returns-clause-some c = laws.some_division Whole nil_not_whole whole_or_not

pub returns-clause-one : goal.returns-clause-one
returns-clause-one c = laws.unique_division Whole nil_not_whole whole_closes
