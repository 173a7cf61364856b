use Rattle.std.proofs.Common.{◌≡◌, ◌++◌, ◌∙◌, subst}
use Rattle.crossterm_style.specs.Styles.{no_style}
use Rattle.screen.specs.inside.Bridges.{Approaches}
use Rattle.screen.specs.inside.Settings.{Sets}
use Rattle.screen.specs.inside.Strokes.{again_strokes, move_strokes, style_strokes}
use Rattle.screen.proofs.Putting.{puts_both}
use Rattle.screen.proofs.planning.put_stop.Goals as goal

pub returns : goal.returns
returns g c =
    let held = g.W.Write.contents in
    let old = held c.args.writer.now in
    let near = held c.cross-there.new.writer in
    let moved = held c.put_move.new.writer in
    let now = held c.put_style.new.writer in
    let how = c.setting_of-setting.result in
    let there = c.cross-there.result in
    let column = c.args.column in
    let plain : c.new-plain.result ≡ no_style = c.new-plain.ensures ∙ c.new.ensures in
    let (cells, way, puts) = c.cross-there.ensures in
    let pen = c.args.pen.now in
    let stops = puts_both (move_strokes there column 0) (style_strokes how) near moved now c.cross-there.new.pen c.put_move.new.pen c.put_style.new.pen c.put_move.ensures c.put_style.ensures in (
      cells,
      there,
      how,
      subst (λ n. Approaches c.args.after.now c.args.cursor c.args.style n column cells there) c.from.ensures way,
      subst (λ s. Sets c.args.style s how) plain c.setting_of-setting.ensures.sets,
      c.setting_of-setting.ensures.fits,
      puts_both (again_strokes cells) (move_strokes there column 0 ++ style_strokes how) old near now pen c.cross-there.new.pen c.put_style.new.pen puts stops,
    )
