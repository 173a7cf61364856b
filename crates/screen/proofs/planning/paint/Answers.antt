use Rattle.std.proofs.Common.{◌∷◌, ◌++◌, [], ◌/◌, ◌%◌}
use Rattle.screen.specs.declared.strokes.Stroke.TheVariants as stroke
use Rattle.screen.specs.inside.Strokes.{move_strokes, style_strokes}
use Rattle.screen.proofs.Putting.{puts_both}
use Rattle.screen.proofs.planning.paint.Goals as goal

pub returns : goal.returns
returns g c =
    let held = g.W.Write.contents in
    let old = held c.args.writer.now in
    let moved = held c.put_place.new.writer in
    let set = held c.put_style.new.writer in
    let now = held c.put_print.new.writer in
    let moves = move_strokes c.args.there (c.args.at % c.args.size.0) (c.args.at / c.args.size.0) in
    let style = style_strokes c.args.setting.now in
    let print = stroke.Print c.args.cell.now.symbol c.args.cell.now.marks ∷ [] in
    puts_both moves (style ++ print) old moved now c.args.pen.now c.put_place.new.pen c.put_print.new.pen c.put_place.ensures
    (puts_both style print moved set now c.put_place.new.pen c.put_style.new.pen c.put_print.new.pen c.put_style.ensures c.put_print.ensures)
