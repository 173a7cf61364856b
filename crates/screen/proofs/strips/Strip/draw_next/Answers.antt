use Rattle.std.proofs.Common.{◌≡◌, ◌<◌, ◌∙◌, Err, IfSome, Some, true, ap, refl, subst, sym}
use Rattle.screen.specs.Drawings.{knows_cells}
use Rattle.screen.specs.inside.Leaving.{left_by}
use Rattle.screen.proofs.NextFrames.{next_drawn, next_refused}
use Rattle.screen.proofs.RowFrames.{err_with, on_ok_both}
use Rattle.screen.proofs.strips.Strip.draw_next.Goals as goal

pub returns-in-Some-cursor-clause-frame : goal.returns-in-Some-cursor-clause-frame
returns-in-Some-cursor-clause-frame g c =
    let held = g.W.Write.contents in
    let v = c.self.inside.screen in
    let near : c.in-Some.from < v.width = subst (λ o. IfSome o (λ n. n < v.width)) c.in-Some.is c.self.invariant.1 in
    let known : knows_cells v.drawn c.args.colors ≡ true = sym c.knows.ensures ∙ c.if-knows.true in
    on_ok_both c.draw_next-drawn.result
    (next_drawn v c.self.inside.left c.args.cursor c.args.self.now c.args.colors c.args.buffer.now c.in-Some.from c.in-Some-cursor.column (held c.args.writer.now) (held c.draw_next-drawn.new.writer)
    c.self.invariant.0 c.self.view_is near known c.in-Some.is c.in-Some-cursor.is) c.draw_next-drawn.ensures.accepted c.draw_next-drawn.ensures.frame

pub returns-in-Some-cursor-clause-err : goal.returns-in-Some-cursor-clause-err
returns-in-Some-cursor-clause-err g c =
    let held = g.W.Write.contents in
    let v = c.self.inside.screen in
    let left = c.self.inside.left in
    let near : c.in-Some.from < v.width = subst (λ o. IfSome o (λ n. n < v.width)) c.in-Some.is c.self.invariant.1 in
    let known : knows_cells v.drawn c.args.colors ≡ true = sym c.knows.ensures ∙ c.if-knows.true in
    err_with c.draw_next-drawn.result
    (λ fault is. next_refused fault v c.draw_next-drawn.new.self left c.left_by-self-inside.result c.args.cursor c.args.self.now _ c.args.colors c.args.buffer.now c.in-Some.from c.in-Some-cursor.column
    (held c.args.writer.now) (held c.draw_next-drawn.new.writer) c.self.invariant.0 c.self.view_is refl
    (c.left_by-self-inside.ensures ∙ ap (λ r. left_by r left (Some c.in-Some-cursor.column)) is ∙ ap (left_by (Err fault) left) (sym c.in-Some-cursor.is)) near known c.in-Some.is c.in-Some-cursor.is) c.draw_next-drawn.ensures.err
