use Rattle.std.proofs.Common.{◌≡◌, ◌≤◌, ◌∙◌, Some, ap, sym, subst, arith}
use Rattle.std.specs.Str.{chars, IsCharBoundary}
use Rattle.line_editor.specs.Kills.{kill_at}
use Rattle.line_editor.specs.Splits.{Split, bytes_before, split_at}
use Rattle.line_editor.specs.States.{EditorState}
use Rattle.line_editor.specs.inside.Changes.{line_bytes}
use Rattle.line_editor.proofs.Acting.{changed_as, pop_some}
use Rattle.line_editor.proofs.editor.Editor.yank_pop.Goals as goal

pub replace-requires-clause-order : goal.replace-requires-clause-order
replace-requires-clause-order g c =
    let line = ap (λ (w : EditorState). w.line) c.self.view_is in
    let P : Split → Type 0 = λ d. c.in-Some.from ≤ bytes_before d in
    let le = subst P (sym line ∙ sym c.line.ensures) c.in-Some.ensures.0 in
    omega (arith, le, c.at-to.ensures.value)

pub replace-requires-clause-from : goal.replace-requires-clause-from
replace-requires-clause-from g c =
    let line = ap (λ (w : EditorState). w.line) c.self.view_is in
    let P : Split → Type 0 = λ d. IsCharBoundary (line_bytes d) c.in-Some.from in
    subst P (sym line) c.in-Some.ensures.1

pub replace-requires-clause-to : goal.replace-requires-clause-to
replace-requires-clause-to g c =
    let P : Split → Type 0 = λ d. IsCharBoundary (line_bytes d) c.at-to.result in
    subst P c.line.ensures c.at-to.ensures.boundary

pub returns-in_ok-replace-in-Some-clause-ok : goal.returns-in_ok-replace-in-Some-clause-ok
returns-in_ok-replace-in-Some-clause-ok g c =
    let v = c.args.self.now in
    let line = ap (λ (w : EditorState). w.line) c.self.view_is in
    let d = c.self.inside.draft.line in
    let place : split_at (line_bytes d) c.at-to.result ≡ v.line =
    ap (λ (x : Split). split_at (line_bytes x) c.at-to.result) (sym c.line.ensures) ∙ c.at-to.ensures.place ∙ c.line.ensures ∙ line in
    let before = c.in-Some.ensures.2 ∙ ap (λ (x : Split). Some (split_at (line_bytes x) c.in-Some.from).before) (sym line) in
    pop_some v _ (split_at (line_bytes d) c.in-Some.from) (split_at (line_bytes d) c.at-to.result) (chars c.kill_at-text.result.now) c.next_yank-next.result
    before place c.next_yank-next.ensures (c.kill_at-text.ensures.text ∙ ap (λ (w : EditorState). kill_at w.kills c.next_yank-next.result) c.self.view_is)
    (changed_as _ _ c.self.view_is _ _ c.in_ok-replace-in-Some.ensures.ok)
