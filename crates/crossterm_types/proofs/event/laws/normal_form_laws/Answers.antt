-- The laws of the normal form.
use Rattle.crossterm_types.specs.Compared.{compared}
use Rattle.crossterm_types.specs.contracts.event.key.normal_key.NormalKeyHash.TheImpl.Laws.{respects_eq-law}
use Rattle.crossterm_types.proofs.NormalForm.{normal-normal}
use Rattle.crossterm_types.proofs.SameKeys.{equal-normal, equal-ordered, equal-itself}
use Rattle.crossterm_types.proofs.event.laws.normal_form_laws.Goals as goal

pub returns-clause-twice : goal.returns-clause-twice
returns-clause-twice c = normal-normal

pub returns-clause-equal : goal.returns-clause-equal
returns-clause-equal c = equal-normal

pub returns-clause-ordered : goal.returns-clause-ordered
returns-clause-ordered c = equal-ordered

pub returns-clause-hashed : goal.returns-clause-hashed
returns-clause-hashed c = λ a b. respects_eq-law (compared a) (compared b)

pub returns-clause-fixed : goal.returns-clause-fixed
returns-clause-fixed c = equal-itself
