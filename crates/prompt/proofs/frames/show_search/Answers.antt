use Rattle.std.proofs.Common.{Bool, refl, [], ap, chars, subst, sym, ◌∙◌}
use Rattle.std.specs.Prelude.{OnErr, OnOk}
use Rattle.std.proofs.KnownBytes.{Appends-nil}
use Rattle.std.proofs.lemmas.Str.{encodes-chars}
use Rattle.line_editor.specs.Seeking.{is_ahead}
use Rattle.prompt.specs.Drawing.{search_text}
use Rattle.prompt.specs.Frames.{Draws, DrawsFront, area_of}
use Rattle.prompt.specs.Shown.{Shown, runs_of}
use Rattle.prompt.specs.Written.{search_shown}
use Rattle.prompt.proofs.Drawn.{none}
use Rattle.prompt.proofs.Looking.{seen_is}
use Rattle.prompt.proofs.Sending.{err_of}
use Rattle.prompt.proofs.frames.show_search.Goals as goal

pub returns-in_err-text-clause-stops : goal.returns-in_err-text-clause-stops
returns-in_err-text-clause-stops g c =
    let old = g.W.Write.contents c.args.out.now in
    err_of c.from_residual.result (none (search_shown (chars c.args.pattern.now) c.args.editor.now) (area_of c.args.rows.now) old old (Appends-nil old))

pub returns-clause-shows : goal.returns-clause-shows
returns-clause-shows g c =
    let text = c.as_str.ensures.value ∙ c.in_ok-text.ensures ∙ ap (λ (b : Bool). search_text b c.args.pattern.now) c.is_ahead.ensures
    ∙ ap (λ t. search_text (is_ahead c.args.editor.now.last) t) (sym (encodes-chars c.args.pattern.now c.utf8.pattern)) in
    let is = c.new.ensures ∙ seen_is _ _ _ _ _ _ _ _ (ap (λ t. runs_of t []) text) c.line.ensures refl refl in
    subst (λ (s : Shown). OnOk c.draw_next.result (Draws s (area_of c.args.rows.now) (area_of c.draw_next.new.self) (g.W.Write.contents c.args.out.now) (g.W.Write.contents c.draw_next.new.out)))
    is c.draw_next.ensures.shows

pub returns-clause-stops : goal.returns-clause-stops
returns-clause-stops g c =
    let text = c.as_str.ensures.value ∙ c.in_ok-text.ensures ∙ ap (λ (b : Bool). search_text b c.args.pattern.now) c.is_ahead.ensures
    ∙ ap (λ t. search_text (is_ahead c.args.editor.now.last) t) (sym (encodes-chars c.args.pattern.now c.utf8.pattern)) in
    let is = c.new.ensures ∙ seen_is _ _ _ _ _ _ _ _ (ap (λ t. runs_of t []) text) c.line.ensures refl refl in
    subst (λ (s : Shown). OnErr c.draw_next.result (DrawsFront s (area_of c.args.rows.now) (g.W.Write.contents c.args.out.now) (g.W.Write.contents c.draw_next.new.out)))
    is c.draw_next.ensures.stops
