use Rattle.std.proofs.Common.{◌≡◌, ℕ, ◌++◌, ◌*◌, ◌<◌, ◌^◌, Bool, false, List, Option, append_assoc, arith, length, subst, sym}
use Rattle.std.specs.List.{All}
use Rattle.crossterm_style.specs.Styles.{no_style}
use Rattle.crossterm_style.specs.declared.content_style.ContentStyle.{ContentStyle}
use Rattle.screen.specs.declared.pens.Pen.{Pen}
use Rattle.screen.specs.declared.settings.Setting.{Setting}
use Rattle.screen.specs.declared.starts.Start.TheVariants as start
use Rattle.screen.specs.declared.strokes.Stroke.{Stroke}
use Rattle.screen.specs.Cells.{ArePaired, Cell, IsPlaced}
use Rattle.screen.specs.inside.Bridges.{Approaches}
use Rattle.screen.specs.inside.Pens.{PutsStrokes}
use Rattle.screen.specs.inside.Scans.{PlannedNext, Visited}
use Rattle.screen.specs.inside.Settings.{HasByteColors, Sets}
use Rattle.screen.specs.inside.Strokes.{AreFitting, again_strokes, stop_strokes}
use Rattle.screen.proofs.Crossings.{approach_fitting}
use Rattle.screen.proofs.Frames.{fitting_next, planned_next}
use Rattle.screen.proofs.Putting.{puts_both}
use Rattle.screen.proofs.planning.put_next.Goals as goal

-- What the scan put, and behind it the stop, are the strokes of a frame.
all_put : (w from n column : ℕ) (before after : List Cell) (at : Option ℕ) (style : Option ContentStyle) (old painted ended : Option (List ℕ)) (pen scanned stopped : Pen) → n ≡ from → w < 2 ^ 32 → column < w
    → ArePaired false after → All IsPlaced after → length after ≡ w * 1
    → (strokes : List Stroke) × Visited (start.All n) w 1 before after at style strokes × AreFitting (start.All n) strokes × PutsStrokes strokes old pen painted scanned
    → (cells : List Cell) × (there : Bool) × (how : Setting) × Approaches after at style column column cells there × Sets style no_style how × HasByteColors how
    × PutsStrokes (again_strokes cells ++ stop_strokes there how column) painted scanned ended stopped
    → (strokes : List Stroke) × PlannedNext w before after from column strokes × AreFitting (start.All from) strokes × PutsStrokes strokes old pen ended stopped
all_put w from n column before after at style old painted ended pen scanned stopped is wide lt paired placed long (strokes, visited, fit, puts) (cells, there, how, way, sets, bytes, more) =
    let again = again_strokes cells in
    let last = stop_strokes there how column in
    let joined : strokes ++ (again ++ last) ≡ (strokes ++ again) ++ last = sym (append_assoc strokes again last) in
    let seen : Visited (start.All from) w 1 before after at style strokes = subst (λ k. Visited (start.All k) w 1 before after at style strokes) is visited in
    let fits : AreFitting (start.All from) strokes = subst (λ k. AreFitting (start.All k) strokes) is fit in (
      (strokes ++ again) ++ last,
      planned_next w before after from column at style strokes cells there how wide lt paired placed long way sets bytes seen,
      fitting_next from (strokes ++ again) there how column (omega (arith, lt, wide)) (approach_fitting (start.All from) after at style column column cells there strokes placed way fits),
      subst (λ l. PutsStrokes l old pen ended stopped) joined (puts_both strokes (again ++ last) old painted ended pen scanned stopped puts more),
    )

pub returns-clause-strokes : goal.returns-clause-strokes
returns-clause-strokes g c =
    let held = g.W.Write.contents in
    let wide : c.args.width < 2 ^ 32 = omega arith in
    all_put c.args.width c.args.from c.from.result c.args.column c.args.before.now c.args.after.now c.scan-cursor.result.0 c.scan-cursor.result.1 (held c.args.writer.now) (held c.scan-cursor.new.writer) (held c.put_stop.new.writer)
    c.args.pen.now c.scan-cursor.new.pen c.put_stop.new.pen c.from.ensures wide c.requires.column c.requires.after_paired c.requires.fits c.requires.length c.scan-cursor.ensures.strokes c.put_stop.ensures
