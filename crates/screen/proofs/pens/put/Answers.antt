use Rattle.std.proofs.Common.{◌∷◌, [], refl}
use Rattle.crossterm_command.specs.Tokens.{text_of}
use Rattle.screen.specs.inside.Strokes.{written}
use Rattle.screen.proofs.Putting.{puts_both, stroke_text}
use Rattle.screen.proofs.pens.put.Goals as goal

pub returns : goal.returns
returns g c =
    let held = g.W.Write.contents in
    let room = held c.make_room.new.writer in
    let pen = c.make_room.new.pen in
    let text = text_of (written pen.in_row pen.colors c.args.stroke) in
    puts_both [] (c.args.stroke ∷ []) (held c.args.writer.now) room room c.args.pen.now pen c.take.new.pen c.make_room.ensures (stroke_text c.args.stroke room room pen c.take.new.pen (c.take.ensures text room refl))
