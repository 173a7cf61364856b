use Rattle.std.proofs.Common.{[], refl}
use Rattle.crossterm_command.specs.Tokens.{text_of}
use Rattle.screen.specs.inside.Blocks.{step_tokens}
use Rattle.screen.proofs.RowSteps.{puts_then, step_formed}
use Rattle.screen.proofs.pens.put_step.Goals as goal

pub returns : goal.returns
returns g c =
    let held = g.W.Write.contents in
    let room = held c.make_room.new.writer in
    puts_then [] (step_tokens c.args.step) (held c.args.writer.now) room room c.args.pen.now c.make_room.new.pen c.take.new.pen (tt, c.make_room.ensures) (step_formed c.args.step, c.take.ensures (text_of (step_tokens c.args.step)) room refl)
