use Rattle.std.proofs.Common.{◌∙◌, [], Some, ap, sym, arith}
use Rattle.std.proofs.lemmas.Bool.{false≢true}
use Rattle.line_editor.specs.States.{LeftLine}
use Rattle.line_editor.proofs.Leaving.{missed_line, position_found, position_within}
use Rattle.line_editor.proofs.left.line_of.Goals as goal

pub unreachable-requires : goal.unreachable-requires
unreachable-requires g c =
    let within = position_within c.args.place c.args.left.now.items c.in-Some.at c.in-Some.ensures in
    false≢true (c.in-None-get.ensures.variant.1 (omega (arith, within)))

pub returns-in-None : goal.returns-in-None
returns-in-None g c = sym (missed_line 0 c.args.place (record { before = []; after = [] }) c.args.left.now.items c.in-None.ensures)

pub returns-in-Some-get : goal.returns-in-Some-get
returns-in-Some-get g c =
    ap (λ d. Some d) c.line-in-Some-get.ensures ∙ ap (λ (y : LeftLine). Some y.draft.line) c.line.view_is
    ∙ sym ((position_found c.args.place c.args.left.now.items c.in-Some.at c.in-Some.ensures).line c.in-Some-get.line.now c.in-Some-get.ensures.item.1)
