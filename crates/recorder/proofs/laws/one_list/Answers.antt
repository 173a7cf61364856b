use Rattle.recorder.proofs.Stoppings.{fronts_happen, one_list}
use Rattle.recorder.proofs.laws.one_list.Goals as goal

pub returns-clause-one : goal.returns-clause-one
returns-clause-one c = one_list c.unique_division.ensures.one

pub returns-clause-fronts : goal.returns-clause-fronts
returns-clause-fronts c = fronts_happen
