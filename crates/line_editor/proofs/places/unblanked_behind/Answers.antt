use Rattle.std.proofs.Common.{sym, ap, ◌∙◌}
use Rattle.line_editor.specs.Words.{unblanked}
use Rattle.line_editor.proofs.Stepping.{chars_from-end}
use Rattle.line_editor.proofs.places.unblanked_behind.Goals as goal

pub returns-clause-rest : goal.returns-clause-rest
returns-clause-rest c =
    let none = chars_from-end c.args.text.now _ c.loop-place-test.false in
    none ∙ sym (c.loop-place.invariant.same ∙ ap unblanked none)
