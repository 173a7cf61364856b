use Rattle.std.proofs.Common.{◌≡◌, ◌++◌, ◌≤◌, ◌∙◌, arith, ap, length, replicate, rules, subst, sym}
use Rattle.std.proofs.lemmas.Result.{on_ok_weaker}
use Rattle.screen.specs.Cells.{AreLaidOut, blank, shown_text}
use Rattle.screen.specs.Overwriting.{cells_with}
use Rattle.screen.specs.Paragraphs.{columns_left}
use Rattle.screen.specs.Texts.{part_columns}
use Rattle.screen.proofs.Behind.{laid_in_next, laid_in_row}
use Rattle.screen.proofs.paragraphs.push_in_row.Goals.{then-taken-left+in_ok-push_blanks, else-taken-left}
use Rattle.screen.proofs.paragraphs.push_in_row.Goals as goal

pub returns-clause-laid : goal.returns-clause-laid
returns-clause-laid g c = λ laid.
    let style = c.args.cell.now.style in
    let text = shown_text c.args.cell.now in
    let width = c.args.width in
    let old = c.args.cells.now.items in
    let count : c.len.result ≡ length old = search rules in
    let left : c.columns_left-left.result ≡ columns_left width (length old) = c.columns_left-left.ensures ∙ ap (columns_left width) count in
    let fits : part_columns text ≤ width = omega (arith, c.columns-taken.ensures.value, c.if-taken-width.false) in
    on_ok_weaker c.push_cell.result (λ added. subst (AreLaidOut width) (sym added) (elim c.if-taken-left.branch [
      | then-taken-left+in_ok-push_blanks w ↦
          laid_in_next style text width c.columns_left-left.result old c.if-taken-left.cells.items left (subst (λ v. v.items ≡ old ++ replicate c.columns_left-left.result blank) (sym w.cells-is) w.in_ok-push_blanks.ensures.ok)
          c.requires.width fits c.requires.held laid
      | else-taken-left w ↦
          subst (λ v. AreLaidOut width (v.items ++ cells_with style text)) (sym w.cells-is)
          (laid_in_row style text width old c.requires.width (omega (arith, c.columns-taken.ensures.value, w.if-taken-left.false, left)) c.requires.held laid)
    ])) c.push_cell.ensures.ok
