use Rattle.std.proofs.Common.{◌∙◌, ap, refl}
use Rattle.screen.specs.inside.Leaving.{left_by}
use Rattle.screen.proofs.RowFrames.{err_with, on_ok_both, strip_drawn, strip_refused}
use Rattle.screen.proofs.strips.Strip.draw.Goals as goal

pub returns-clause-frame : goal.returns-clause-frame
returns-clause-frame g c =
    let held = g.W.Write.contents in
    on_ok_both c.draw_by-drawn.result
    (strip_drawn c.self.inside.screen c.self.inside.left c.args.self.now c.args.colors c.args.buffer.now c.args.cursor c.in_first_row-place.result (held c.args.writer.now) (held c.draw_by-drawn.new.writer)
    c.self.invariant.0 c.self.view_is c.in_first_row-place.ensures) c.draw_by-drawn.ensures.accepted c.draw_by-drawn.ensures.frame

pub returns-clause-err : goal.returns-clause-err
returns-clause-err g c =
    let held = g.W.Write.contents in
    err_with c.draw_by-drawn.result
    (λ fault is. strip_refused fault c.self.inside.screen c.draw_by-drawn.new.self c.self.inside.left c.left_by-self-inside.result c.args.self.now _ c.args.colors c.args.buffer.now c.args.cursor c.in_first_row-place.result
    (held c.args.writer.now) (held c.draw_by-drawn.new.writer) c.self.invariant.0 c.self.view_is refl
    (c.left_by-self-inside.ensures ∙ ap (λ r. left_by r c.self.inside.left c.args.cursor) is) c.in_first_row-place.ensures) c.draw_by-drawn.ensures.err
