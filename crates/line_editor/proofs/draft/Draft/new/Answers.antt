use Rattle.std.proofs.Common.{refl}
use Rattle.std.specs.Prelude.{false}
use Rattle.line_editor.proofs.Drafting.{none-AreChanges, seen_none}
use Rattle.line_editor.proofs.draft.Draft.new.Goals as goal

pub invariant_of-result : goal.invariant_of-result
invariant_of-result g c = none-AreChanges _ _ _ false c.new.ensures.items c.new-2.ensures.items

pub returns : goal.returns
returns g c = seen_none _ _ _ _ false refl c.new.ensures.items c.new-2.ensures.items
