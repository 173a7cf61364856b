use Rattle.std.specs.Prelude.{false}
use Rattle.line_editor.proofs.Drafting.{none-AreChanges, seen_none}
use Rattle.line_editor.proofs.draft.Draft.clear.Goals as goal

pub invariant_of-self : goal.invariant_of-self
invariant_of-self g c = none-AreChanges _ _ _ false c.clear-2.ensures.items c.clear-3.ensures.items

pub returns : goal.returns
returns g c = seen_none _ _ _ _ false c.clear.ensures c.clear-2.ensures.items c.clear-3.ensures.items
