use Rattle.std.proofs.Common.{◌≡◌, ℕ, ◌-◌, ◌++◌, ◌∙◌, List, Option, ap, max, refl, subst}
use Rattle.crossterm_command.specs.Tokens.{Token}
use Rattle.crossterm_command.specs.declared.color_output.ColorOutput.{ColorOutput}
use Rattle.screen.specs.declared.pens.Pen.{Pen}
use Rattle.screen.specs.Blocks.{Visits, at_last, beginning, begun_column, grown_column, grown_row, growth, cut_rows, to_column, to_row}
use Rattle.screen.specs.Cells.{Cell}
use Rattle.screen.specs.inside.Blocks.{PlannedBlock, PutsTokens, Walks}
use Rattle.screen.proofs.RowSteps.{puts_then, tokens_front, tokens_whole}
use Rattle.screen.proofs.walking.write_block.Goals as goal

-- The beginning, the rows that are added, the visits and the last move are the tokens of a frame.
all_put : (width height known m column_now : ℕ) (colors : ColorOutput) (column : Option ℕ) (row : ℕ) (before after : List Cell) (place to end : ℕ × ℕ) (a b c d e f : Option (List ℕ)) (p q r s t u : Pen) → m ≡ max known 1
    → column_now ≡ begun_column column → place.0 ≡ grown_column column_now (height - m) → place.1 ≡ grown_row m row (height - m) → PutsTokens (beginning known column) a p b q → PutsTokens (growth m row (height - m)) b q c r → r.colors ≡ colors
    → (ts : List Token) × Walks width r.colors (cut_rows width height after) (cut_rows width height before) place ts (cut_rows width height after) to × PutsTokens ts c r d s
    → PutsTokens (to_row to.1 end.1) d s e t → PutsTokens (to_column to.0 end.0) e t f u
    → (ts : List Token) × PlannedBlock width height known colors column row before after end.0 end.1 ts × PutsTokens ts a p f u
all_put width height known m column_now colors column row before after place to end a b c d e f p q r s t u most begun columns rows first grown own (ts, walks, visited) down aside =
    let stop = to_row to.1 end.1 ++ to_column to.0 end.0 in
    let visiting = ts ++ stop in
    let stops : PutsTokens stop d s f u = puts_then (to_row to.1 end.1) (to_column to.0 end.0) d e f s t u down aside in
    let visits : PutsTokens visiting c r f u = puts_then ts stop c d f r s u visited stops in
    let grows : PutsTokens (growth (max known 1) row (height - max known 1)) b q c r = subst (λ k. PutsTokens (growth k row (height - k)) b q c r) most grown in
    let all = growth (max known 1) row (height - max known 1) ++ visiting in
    let from : Visits width r.colors (cut_rows width height after) end.0 end.1 (cut_rows width height before) place.1 place.0 visiting =
    walks end.0 end.1 stop (at_last (cut_rows width height after) to.1 to.0 stop refl refl) in
    let columns_as : place.0 ≡ grown_column (begun_column column) (height - max known 1) = columns ∙ ap (λ n. grown_column n (height - m)) begun ∙ ap (λ k. grown_column (begun_column column) (height - k)) most in
    let rows_as : place.1 ≡ grown_row (max known 1) row (height - max known 1) = rows ∙ ap (λ k. grown_row k row (height - k)) most in (
      beginning known column ++ all,
      record {
        visiting = visiting;
        parts = refl;
        visits = subst (λ k. Visits width k (cut_rows width height after) end.0 end.1 (cut_rows width height before) (grown_row (max known 1) row (height - max known 1)) (grown_column (begun_column column) (height - max known 1)) visiting) own
            (subst (λ n. Visits width r.colors (cut_rows width height after) end.0 end.1 (cut_rows width height before) n (grown_column (begun_column column) (height - max known 1)) visiting) rows_as
            (subst (λ n. Visits width r.colors (cut_rows width height after) end.0 end.1 (cut_rows width height before) place.1 n visiting) columns_as from));
      },
      puts_then (beginning known column) all a b f p q u first (puts_then (growth (max known 1) row (height - max known 1)) visiting b c f q r u grows visits),
    )

pub returns-in-Ok-clause-ok : goal.returns-in-Ok-clause-ok
returns-in-Ok-clause-ok g c =
    let held = g.W.Write.contents in
    let p = c.new-pen.result in
    let u = c.go_to_column.new.pen in
    let old = held c.args.writer.now in
    let last = held c.go_to_column.new.writer in
    let (ts, plan, puts) = all_put c.args.size.0 c.args.size.1 c.args.known c.max.result c.begin-column.result c.args.colors c.args.left.0 c.args.left.1 c.args.before.now c.args.after.now c.grow-place.result c.visit_rows-place.result c.args.end
    old (held c.begin-column.new.writer) (held c.grow-place.new.writer) (held c.visit_rows-place.new.writer) (held c.go_to_row.new.writer) last p c.begin-column.new.pen c.grow-place.new.pen c.visit_rows-place.new.pen c.go_to_row.new.pen u
    c.max.ensures c.begin-column.ensures.column c.grow-place.ensures.column c.grow-place.ensures.row c.begin-column.ensures.tokens c.grow-place.ensures.tokens (c.grow-place.ensures.tokens.1.0 ∙ c.begin-column.ensures.tokens.1.0 ∙ c.new-pen.ensures.colors)
    c.visit_rows-place.ensures.tokens c.go_to_row.ensures c.go_to_column.ensures in
    (ts, plan, tokens_whole ts old last (held c.finish.new.writer) p u c.new-pen.ensures.waiting c.new-pen.ensures.fault puts c.in-Ok.ensures.ok)

pub returns-in-Err-clause-err : goal.returns-in-Err-clause-err
returns-in-Err-clause-err g c =
    let held = g.W.Write.contents in
    let p = c.new-pen.result in
    let u = c.go_to_column.new.pen in
    let old = held c.args.writer.now in
    let last = held c.go_to_column.new.writer in
    let (ts, plan, puts) = all_put c.args.size.0 c.args.size.1 c.args.known c.max.result c.begin-column.result c.args.colors c.args.left.0 c.args.left.1 c.args.before.now c.args.after.now c.grow-place.result c.visit_rows-place.result c.args.end
    old (held c.begin-column.new.writer) (held c.grow-place.new.writer) (held c.visit_rows-place.new.writer) (held c.go_to_row.new.writer) last p c.begin-column.new.pen c.grow-place.new.pen c.visit_rows-place.new.pen c.go_to_row.new.pen u
    c.max.ensures c.begin-column.ensures.column c.grow-place.ensures.column c.grow-place.ensures.row c.begin-column.ensures.tokens c.grow-place.ensures.tokens (c.grow-place.ensures.tokens.1.0 ∙ c.begin-column.ensures.tokens.1.0 ∙ c.new-pen.ensures.colors)
    c.visit_rows-place.ensures.tokens c.go_to_row.ensures c.go_to_column.ensures in
    (ts, plan, tokens_front ts old last (held c.finish.new.writer) p u c.new-pen.ensures.waiting c.new-pen.ensures.fault puts c.in-Err.ensures.err)
