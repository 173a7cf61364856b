use Rattle.std.proofs.Common.{◌∷◌, ◌++◌, [], subst}
use Rattle.crossterm_style.specs.Styles.{no_style}
use Rattle.screen.specs.declared.strokes.Stroke.TheVariants as stroke
use Rattle.screen.specs.inside.Pens.{PutsStrokes}
use Rattle.screen.specs.inside.Strokes.{cursor_strokes}
use Rattle.screen.proofs.Putting.{puts_both}
use Rattle.screen.proofs.planning.put_last.Goals as goal

pub returns : goal.returns
returns g c =
    let held = g.W.Write.contents in
    let old = held c.args.writer.now in
    let plain = held c.put.new.writer in
    let pointed = held c.put_cursor.new.writer in
    let now = held c.put-2.new.writer in
    let style : PutsStrokes (stroke.Style no_style ∷ []) old c.args.pen.now plain c.put.new.pen =
    subst (λ s. PutsStrokes (stroke.Style s ∷ []) old c.args.pen.now plain c.put.new.pen) c.new.ensures c.put.ensures in
    puts_both (stroke.Style no_style ∷ []) (cursor_strokes c.args.cursor ++ (stroke.End ∷ [])) old plain now c.args.pen.now c.put.new.pen c.put-2.new.pen style
    (puts_both (cursor_strokes c.args.cursor) (stroke.End ∷ []) plain pointed now c.put.new.pen c.put_cursor.new.pen c.put-2.new.pen c.put_cursor.ensures c.put-2.ensures)
