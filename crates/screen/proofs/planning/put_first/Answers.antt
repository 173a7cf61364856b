use Rattle.std.proofs.Common.{◌∷◌, [], subst, sym}
use Rattle.crossterm_style.specs.Styles.{no_style}
use Rattle.screen.specs.declared.strokes.Stroke.TheVariants as stroke
use Rattle.screen.specs.inside.Pens.{PutsStrokes}
use Rattle.screen.specs.inside.Strokes.{first_strokes}
use Rattle.screen.proofs.Putting.{puts_both}
use Rattle.screen.proofs.planning.put_first.Goals as goal

pub returns-in-Nothing : goal.returns-in-Nothing
returns-in-Nothing g c =
    let held = g.W.Write.contents in
    let old = held c.args.writer.now in
    let begun = held c.put.new.writer in
    let plain = held c.put-in-Nothing.new.writer in
    let now = held c.put-in-Nothing-2.new.writer in
    let style : PutsStrokes (stroke.Style no_style ∷ []) begun c.put.new.pen plain c.put-in-Nothing.new.pen =
    subst (λ s. PutsStrokes (stroke.Style s ∷ []) begun c.put.new.pen plain c.put-in-Nothing.new.pen) c.new.ensures c.put-in-Nothing.ensures in
    subst (λ s. PutsStrokes (first_strokes s) old c.args.pen.now now c.put-in-Nothing-2.new.pen) (sym c.in-Nothing.is)
    (puts_both (stroke.Begin ∷ []) (stroke.Style no_style ∷ stroke.Erase ∷ []) old begun now c.args.pen.now c.put.new.pen c.put-in-Nothing-2.new.pen c.put.ensures
    (puts_both (stroke.Style no_style ∷ []) (stroke.Erase ∷ []) begun plain now c.put.new.pen c.put-in-Nothing.new.pen c.put-in-Nothing-2.new.pen style c.put-in-Nothing-2.ensures))
