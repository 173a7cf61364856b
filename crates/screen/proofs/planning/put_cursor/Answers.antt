use Rattle.std.proofs.Common.{◌∷◌, [], subst, sym}
use Rattle.screen.specs.declared.strokes.Stroke.TheVariants as stroke
use Rattle.screen.specs.inside.Pens.{PutsStrokes}
use Rattle.screen.specs.inside.Strokes.{cursor_strokes}
use Rattle.screen.proofs.Putting.{puts_both}
use Rattle.screen.proofs.planning.put_cursor.Goals as goal

pub returns-in-Some : goal.returns-in-Some
returns-in-Some g c =
    let held = g.W.Write.contents in
    let old = held c.args.writer.now in
    let moved = held c.put-in-Some.new.writer in
    let now = held c.put-in-Some-2.new.writer in
    subst (λ o. PutsStrokes (cursor_strokes o) old c.args.pen.now now c.put-in-Some-2.new.pen) (sym c.in-Some.is)
    (puts_both (stroke.Move c.in-Some.asked.0 c.in-Some.asked.1 ∷ []) (stroke.Show ∷ []) old moved now c.args.pen.now c.put-in-Some.new.pen c.put-in-Some-2.new.pen c.put-in-Some.ensures c.put-in-Some-2.ensures)
