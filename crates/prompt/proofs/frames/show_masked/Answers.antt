use Rattle.std.proofs.Common.{refl, [], ap, subst, ◌∙◌}
use Rattle.std.specs.Prelude.{OnErr, OnOk}
use Rattle.std.proofs.KnownBytes.{Appends-nil}
use Rattle.line_editor.specs.Masks.{masked}
use Rattle.prompt.specs.Frames.{Draws, DrawsFront, area_of}
use Rattle.prompt.specs.Shown.{Shown}
use Rattle.prompt.specs.Written.{masked_shown, prompt_runs}
use Rattle.prompt.proofs.Drawn.{none}
use Rattle.prompt.proofs.Looking.{seen_is}
use Rattle.prompt.proofs.Sending.{err_of}
use Rattle.prompt.proofs.frames.show_masked.Goals as goal

pub returns-in_err-line-clause-stops : goal.returns-in_err-line-clause-stops
returns-in_err-line-clause-stops g c =
    let old = g.W.Write.contents c.args.out.now in
    err_of c.from_residual.result (none (masked_shown (prompt_runs c.args.prompt.now) c.args.mask c.args.editor.now) (area_of c.args.rows.now) old old (Appends-nil old))

pub returns-clause-shows : goal.returns-clause-shows
returns-clause-shows g c =
    let line = c.in_ok-line.ensures ∙ ap (masked c.args.mask) c.line.ensures in
    let is = seen_is (prompt_runs c.args.prompt.now) _ _ _ [] _ [] _ refl line refl refl in
    subst (λ (s : Shown). OnOk c.draw_next.result (Draws s (area_of c.args.rows.now) (area_of c.draw_next.new.self) (g.W.Write.contents c.args.out.now) (g.W.Write.contents c.draw_next.new.out)))
    is c.draw_next.ensures.shows

pub returns-clause-stops : goal.returns-clause-stops
returns-clause-stops g c =
    let line = c.in_ok-line.ensures ∙ ap (masked c.args.mask) c.line.ensures in
    let is = seen_is (prompt_runs c.args.prompt.now) _ _ _ [] _ [] _ refl line refl refl in
    subst (λ (s : Shown). OnErr c.draw_next.result (DrawsFront s (area_of c.args.rows.now) (g.W.Write.contents c.args.out.now) (g.W.Write.contents c.draw_next.new.out)))
    is c.draw_next.ensures.stops
