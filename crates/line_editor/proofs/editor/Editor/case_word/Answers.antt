use Rattle.std.proofs.Common.{◌≡◌, ◌∙◌, List, ℕ, ap, subst, sym, true}
use Rattle.std.specs.Str.{chars, IsCharBoundary}
use Rattle.line_editor.specs.declared.places.Stop.TheVariants.{WordEnd}
use Rattle.line_editor.specs.declared.places.Target.TheVariants.{Forward}
use Rattle.line_editor.specs.Cases.{cased}
use Rattle.line_editor.specs.Places.{target_place}
use Rattle.line_editor.specs.Shown.{AreRows}
use Rattle.line_editor.specs.Splits.{split_at}
use Rattle.line_editor.specs.States.{EditorState}
use Rattle.line_editor.specs.inside.Changes.{line_bytes}
use Rattle.line_editor.proofs.Acting.{changed_as}
use Rattle.line_editor.proofs.Casing.{case_some, cased-shown}
use Rattle.line_editor.proofs.Wording.{line_with-same, text-bytes}
use Rattle.line_editor.proofs.editor.Editor.case_word.Goals as goal

pub place_of-to-requires : goal.place_of-to-requires
place_of-to-requires g c =
    let P : List ℕ → Type 0 = λ t. IsCharBoundary t c.at-from.result in
    subst P (sym (text-bytes c.text.result.now c.line-line.result.now c.text.utf8 c.text.ensures.text)) c.at-from.ensures.boundary

pub replace-requires-clause-to : goal.replace-requires-clause-to
replace-requires-clause-to g c =
    let P : List ℕ → Type 0 = λ t. IsCharBoundary t c.place_of-to.result in
    subst P (text-bytes c.text.result.now c.line-line.result.now c.text.utf8 c.text.ensures.text ∙ ap line_bytes c.line-line.ensures) c.place_of-to.ensures.boundary

pub replace-requires-clause-with : goal.replace-requires-clause-with
replace-requires-clause-with g c =
    subst AreRows (sym (ap chars c.as_str.ensures.value ∙ c.in_ok-text.ensures)) (cased-shown true c.args.case (chars c.cut-word.result.now) c.cut-word.ensures.shown)

pub returns-clause-ok : goal.returns-clause-ok
returns-clause-ok g c =
    let d = c.line-line.result.now in
    let to = target_place (Forward WordEnd) d in
    let some = c.if-is_nothing.ensures in
    let inside = ap line_bytes c.line-line.ensures in
    let same = text-bytes c.text.result.now d c.text.utf8 c.text.ensures.text in
    let start : split_at (line_bytes c.self.inside.draft.line) c.at-from.result ≡ d = ap (λ t. split_at t c.at-from.result) (sym inside) ∙ c.at-from.ensures.place in
    let end : split_at (line_bytes c.self.inside.draft.line) c.place_of-to.result ≡ to =
    ap (λ t. split_at t c.place_of-to.result) (sym (same ∙ inside)) ∙ c.place_of-to.ensures.place
    ∙ ap (target_place (Forward WordEnd)) (ap (λ t. split_at t c.at-from.result) same ∙ c.at-from.ensures.place) in
    changed_as _ _ c.self.view_is _ _ c.in_ok-replace.ensures.ok
    ∙ case_some c.args.case c.args.self.now d (chars c.cut-word.result.now) (ap (λ (w : EditorState). w.line) (sym c.self.view_is) ∙ sym c.line-line.ensures) c.cut-word.ensures.text
    some.0 some.1 some.2 _ (line_with-same _ d (chars c.as_str.result.now) (cased c.args.case (chars c.cut-word.result.now)) _ to start (ap chars c.as_str.ensures.value ∙ c.in_ok-text.ensures) end)
