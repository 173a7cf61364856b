use Rattle.std.proofs.Common.{List, ℕ, subst}
use Rattle.line_editor.proofs.Rowing.{row_settled}
use Rattle.line_editor.proofs.Settling.{Placed}
use Rattle.line_editor.proofs.lines.Line.go_row.Goals as goal

pub invariant_of-self : goal.invariant_of-self
invariant_of-self g c =
    let P : List ℕ → Type 0 = λ t. Placed t c.in-Some.place in
    let placed = subst P c.as_str.ensures.value (c.in-Some.ensures.0, row_settled c.args.up _ _ c.in-Some.ensures.1) in
    (placed.0, placed.1, c.self.invariant.2)
