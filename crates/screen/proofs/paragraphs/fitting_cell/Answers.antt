use Rattle.std.proofs.Common.{◌≡◌, [], ap, ◌∙◌, subst, sym}
use Rattle.screen.specs.Cells.{Cell, FitsCell, shown_text}
use Rattle.screen.proofs.Fitting.{held_alone, replacement_printed}
use Rattle.screen.proofs.paragraphs.fitting_cell.Goals as goal

pub returns-in-Some-clause-held : goal.returns-in-Some-clause-held
returns-in-Some-clause-held c = λ p part.
    let cell : ◌≡◌ {A = Cell} c.of-in-Some.result (record { symbol = 0xFFFD; marks = []; style = c.args.style }) =
    c.of-in-Some.ensures ∙ ap (λ l. record { symbol = 0xFFFD; marks = l; style = c.args.style }) c.none.ensures in
    subst (λ d. FitsCell (shown_text d)) (sym cell) (held_alone 0xFFFD replacement_printed)
