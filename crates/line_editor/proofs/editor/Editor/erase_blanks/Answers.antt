use Rattle.std.proofs.Common.{◌∙◌, [], List, ℕ, ap, refl, subst, sym, true}
use Rattle.std.specs.Str.{chars, IsCharBoundary}
use Rattle.line_editor.specs.Edits.{line_with}
use Rattle.line_editor.specs.Splits.{split_at}
use Rattle.line_editor.specs.States.{EditorState}
use Rattle.line_editor.specs.inside.Changes.{line_bytes}
use Rattle.line_editor.proofs.Acting.{changed_as}
use Rattle.line_editor.proofs.Showing.{shown-nothing}
use Rattle.line_editor.proofs.Wording.{blanks_as, blanks_some, text-bytes}
use Rattle.line_editor.proofs.editor.Editor.erase_blanks.Goals as goal

pub unblanked_before-from-requires : goal.unblanked_before-from-requires
unblanked_before-from-requires g c =
    let P : List ℕ → Type 0 = λ t. IsCharBoundary t c.at-at.result in
    subst P (sym (text-bytes c.text-text.result.now c.line-line.result.now c.text-text.utf8 c.text-text.ensures.text)) c.at-at.ensures.boundary

pub unblanked_behind-to-requires : goal.unblanked_behind-to-requires
unblanked_behind-to-requires g c =
    let P : List ℕ → Type 0 = λ t. IsCharBoundary t c.at-at.result in
    subst P (sym (text-bytes c.text-text.result.now c.line-line.result.now c.text-text.utf8 c.text-text.ensures.text)) c.at-at.ensures.boundary

pub replace-requires-clause-from : goal.replace-requires-clause-from
replace-requires-clause-from g c =
    let P : List ℕ → Type 0 = λ t. IsCharBoundary t c.unblanked_before-from.result in
    subst P (text-bytes c.text-text.result.now c.line-line.result.now c.text-text.utf8 c.text-text.ensures.text ∙ ap line_bytes c.line-line.ensures) c.unblanked_before-from.ensures.boundary

pub replace-requires-clause-to : goal.replace-requires-clause-to
replace-requires-clause-to g c =
    let P : List ℕ → Type 0 = λ t. IsCharBoundary t c.unblanked_behind-to.result in
    subst P (text-bytes c.text-text.result.now c.line-line.result.now c.text-text.utf8 c.text-text.ensures.text ∙ ap line_bytes c.line-line.ensures) c.unblanked_behind-to.ensures.boundary

pub replace-requires-clause-with : goal.replace-requires-clause-with
replace-requires-clause-with g c = shown-nothing true _ refl

pub returns-clause-ok : goal.returns-clause-ok
returns-clause-ok g c =
    let d = c.line-line.result.now in
    let text = c.text-text.result.now in
    let same = text-bytes text d c.text-text.utf8 c.text-text.ensures.text in
    let from = c.unblanked_before-from.result in
    let to = c.unblanked_behind-to.result in
    changed_as _ _ c.self.view_is _ _ c.in_ok-replace.ensures.ok
    ∙ blanks_some c.args.self.now d (ap (λ (w : EditorState). w.line) (sym c.self.view_is) ∙ sym c.line-line.ensures) (sym c.if-not-is_beside_blank.ensures) _
    (ap (λ t. line_with (split_at t from) (chars []) (split_at t to)) (sym (same ∙ ap line_bytes c.line-line.ensures))
    ∙ blanks_as text from to c.at-at.result d (ap (λ t. split_at t c.at-at.result) same ∙ c.at-at.ensures.place) c.unblanked_before-from.ensures.rest c.unblanked_behind-to.ensures.rest)
