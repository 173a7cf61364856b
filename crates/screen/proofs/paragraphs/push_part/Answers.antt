use Rattle.std.proofs.Common.{◌++◌, ◌∙◌, ap, length, subst, sym}
use Rattle.std.proofs.lemmas.Result.{on_ok_weaker}
use Rattle.screen.specs.Cells.{AreLaidOut, shown_text}
use Rattle.screen.specs.Paragraphs.{placed_part}
use Rattle.screen.proofs.Behind.{laid_below}
use Rattle.screen.proofs.Wrapping.{cells_of_part}
use Rattle.screen.proofs.paragraphs.push_part.Goals as goal

pub returns-then-part-eq10-clause-laid : goal.returns-then-part-eq10-clause-laid
returns-then-part-eq10-clause-laid g c = λ laid.
    let width = c.args.width in
    let left = c.columns_left-left.result in
    on_ok_weaker c.push_blanks.result (λ added. subst (AreLaidOut width) (sym added) (laid_below width left c.args.cells.now.items laid)) c.push_blanks.ensures.ok

pub returns-clause-ok : goal.returns-clause-ok
returns-clause-ok g c = λ p part.
    let cell = c.fitting_cell.result in
    let width = c.args.width in
    let old = c.args.cells.now.items in
    on_ok_weaker c.push_in_row.result (λ added.
    added ∙ ap (λ s. old ++ placed_part s width (length old) (shown_text cell)) c.fitting_cell.ensures.style
    ∙ ap (λ t. old ++ placed_part c.args.style width (length old) t) (sym (c.fitting_cell.ensures.value p part))
    ∙ ap (λ l. old ++ l) (sym (cells_of_part c.args.style width (length old) c.args.part.now p part c.if-part-eq10.false))) c.push_in_row.ensures.ok
