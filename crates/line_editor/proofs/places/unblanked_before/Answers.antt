use Rattle.std.proofs.Common.{sym, ◌∙◌}
use Rattle.line_editor.proofs.Wording.{unblanked-start}
use Rattle.line_editor.proofs.places.unblanked_before.Goals as goal

pub returns-clause-rest : goal.returns-clause-rest
returns-clause-rest c = sym (c.loop-place.invariant.same ∙ unblanked-start c.args.text.now _ c.loop-place-test.false)
