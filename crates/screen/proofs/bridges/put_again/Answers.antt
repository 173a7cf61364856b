use Rattle.std.proofs.Common.{rules, ◌≡◌, ◌<◌, ◌∷◌, [], get_or, length, sym, take, subst, arith}
use Rattle.std.proofs.lemmas.List.{take_all}
use Rattle.screen.specs.declared.strokes.Stroke.TheVariants as stroke
use Rattle.screen.specs.inside.Pens.{PutsStrokes}
use Rattle.screen.specs.inside.Strokes.{again_strokes}
use Rattle.screen.proofs.Crossings.{strokes_more}
use Rattle.screen.proofs.Putting.{puts_both, puts_none}
use Rattle.screen.proofs.bridges.put_again.Goals as goal

pub loop-cell-init : goal.loop-cell-init
loop-cell-init g c = puts_none (g.W.Write.contents c.args.writer.now) c.args.pen.now

pub loop-cell-preserved : goal.loop-cell-preserved
loop-cell-preserved g c =
    let held = g.W.Write.contents in
    let cells = c.args.cells.now in
    let k = c.loop-cell.cell-index in
    let cell = c.cell-item.result in
    let lt : k < length cells = search rules in
    let is : get_or cells k cell ≡ cell = search rules in
    let one : PutsStrokes (stroke.Print cell.symbol cell.marks ∷ []) (held c.loop-cell.writer) c.loop-cell.pen (held c.put.new.writer) c.put.new.pen = search rules in
    subst (λ l. PutsStrokes l (held c.args.writer.now) c.args.pen.now (held c.put.new.writer) c.put.new.pen) (sym (strokes_more cells k cell lt is))
    (puts_both (again_strokes (take k cells)) (stroke.Print cell.symbol cell.marks ∷ []) (held c.args.writer.now) (held c.loop-cell.writer) (held c.put.new.writer) c.args.pen.now c.loop-cell.pen c.put.new.pen c.loop-cell.invariant one)

pub returns : goal.returns
returns g c =
    let held = g.W.Write.contents in
    let cells = c.args.cells.now in
    subst (λ l. PutsStrokes (again_strokes l) (held c.args.writer.now) c.args.pen.now (held c.loop-cell.writer) c.loop-cell.pen) (take_all c.loop-cell.cell-index cells (omega (arith, c.loop-cell-test.false))) c.loop-cell.invariant
