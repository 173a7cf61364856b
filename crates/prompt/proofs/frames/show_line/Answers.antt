use Rattle.std.proofs.Common.{◌≡◌, Bor, List, ℕ, if◌then◌else◌, refl, [], ap, encode_utf8_all, map, reverse, subst, sym, vec_items, ◌∙◌}
use Rattle.std.specs.Prelude.{OnErr, OnOk}
use Rattle.std.proofs.KnownBytes.{Appends-nil}
use Rattle.std.proofs.lemmas.Str.{encodes-chars}
use Rattle.line_editor.specs.Splits.{Split, line_text}
use Rattle.prompt.specs.Completing.{as_read}
use Rattle.prompt.specs.Frames.{Draws, DrawsFront, area_of}
use Rattle.prompt.specs.Shown.{Shown}
use Rattle.prompt.specs.Written.{line_shown, look_of, prompt_runs}
use Rattle.prompt.proofs.Drawn.{none}
use Rattle.prompt.proofs.Looking.{candidates_of, listed, seen_is, unlisted}
use Rattle.prompt.proofs.Sending.{err_of}
use Rattle.prompt.proofs.frames.show_line.Goals.{then-lists+in_ok-names, else-lists}
use Rattle.prompt.proofs.frames.show_line.Goals as goal

pub returns-in_err-names-clause-stops : goal.returns-in_err-names-clause-stops
returns-in_err-names-clause-stops g c =
    let old = g.W.Write.contents c.args.out.now in
    let look = look_of as_read (g.H.Helper.hints c.args.prompt.now.helper.now) (g.H.Helper.candidates c.args.prompt.now.helper.now) c.args.prompt.now in
    err_of c.from_residual.result (none (line_shown look c.args.lists c.args.editor.now) (area_of c.args.rows.now) old old (Appends-nil old))

pub returns-clause-shows : goal.returns-clause-shows
returns-clause-shows g c =
    let hints = g.H.Helper.hints c.args.prompt.now.helper.now in
    let candidates = g.H.Helper.candidates c.args.prompt.now.helper.now in
    let w = c.args.editor.now in
    let all = candidates (encode_utf8_all (reverse w.line.before)) (encode_utf8_all w.line.after) in
    let hint = c.hint.ensures ∙ ap hints (sym (encodes-chars c.text.result.now c.text.utf8)) ∙ ap (λ t. hints (encode_utf8_all t)) (c.text.ensures.text ∙ ap line_text c.line-line.ensures) in
    let names : map (λ (n : Bor (List ℕ)). n.now) (vec_items c.if-lists.names) ≡ (if c.args.lists then all else []) = elim c.if-lists.branch [
      | then-lists+in_ok-names b ↦
          ap (λ v. map (λ (n : Bor (List ℕ)). n.now) (vec_items v)) b.names-is ∙ b.in_ok-names.ensures
          ∙ candidates_of candidates w.line _ _ b.before-then-lists.utf8 b.after.utf8 (b.before-then-lists.ensures.text ∙ ap (λ (l : Split). l.before) c.line-line.ensures)
          (b.after.ensures ∙ ap (λ (l : Split). l.after) c.line-line.ensures) ∙ listed c.args.lists all b.if-lists.true
      | else-lists b ↦ ap (λ v. map (λ (n : Bor (List ℕ)). n.now) (vec_items v)) b.names-is ∙ ap (map (λ (n : Bor (List ℕ)). n.now)) c.new-names.ensures.items ∙ unlisted c.args.lists all b.if-lists.false
    ] in
    let is = seen_is (prompt_runs c.args.prompt.now) _ _ _ _ _ _ _ refl c.line-line.ensures hint (ap (map (λ (n : Bor (List ℕ)). n.now)) c.deref.ensures.value ∙ names) in
    subst (λ (s : Shown). OnOk c.draw_next.result (Draws s (area_of c.args.rows.now) (area_of c.draw_next.new.self) (g.W.Write.contents c.args.out.now) (g.W.Write.contents c.draw_next.new.out)))
    is c.draw_next.ensures.shows

pub returns-clause-stops : goal.returns-clause-stops
returns-clause-stops g c =
    let hints = g.H.Helper.hints c.args.prompt.now.helper.now in
    let candidates = g.H.Helper.candidates c.args.prompt.now.helper.now in
    let w = c.args.editor.now in
    let all = candidates (encode_utf8_all (reverse w.line.before)) (encode_utf8_all w.line.after) in
    let hint = c.hint.ensures ∙ ap hints (sym (encodes-chars c.text.result.now c.text.utf8)) ∙ ap (λ t. hints (encode_utf8_all t)) (c.text.ensures.text ∙ ap line_text c.line-line.ensures) in
    let names : map (λ (n : Bor (List ℕ)). n.now) (vec_items c.if-lists.names) ≡ (if c.args.lists then all else []) = elim c.if-lists.branch [
      | then-lists+in_ok-names b ↦
          ap (λ v. map (λ (n : Bor (List ℕ)). n.now) (vec_items v)) b.names-is ∙ b.in_ok-names.ensures
          ∙ candidates_of candidates w.line _ _ b.before-then-lists.utf8 b.after.utf8 (b.before-then-lists.ensures.text ∙ ap (λ (l : Split). l.before) c.line-line.ensures)
          (b.after.ensures ∙ ap (λ (l : Split). l.after) c.line-line.ensures) ∙ listed c.args.lists all b.if-lists.true
      | else-lists b ↦ ap (λ v. map (λ (n : Bor (List ℕ)). n.now) (vec_items v)) b.names-is ∙ ap (map (λ (n : Bor (List ℕ)). n.now)) c.new-names.ensures.items ∙ unlisted c.args.lists all b.if-lists.false
    ] in
    let is = seen_is (prompt_runs c.args.prompt.now) _ _ _ _ _ _ _ refl c.line-line.ensures hint (ap (map (λ (n : Bor (List ℕ)). n.now)) c.deref.ensures.value ∙ names) in
    subst (λ (s : Shown). OnErr c.draw_next.result (DrawsFront s (area_of c.args.rows.now) (g.W.Write.contents c.args.out.now) (g.W.Write.contents c.draw_next.new.out)))
    is c.draw_next.ensures.stops
