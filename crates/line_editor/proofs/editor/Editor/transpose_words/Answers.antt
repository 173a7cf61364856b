use Rattle.std.proofs.Common.{◌≡◌, ◌∙◌, List, ℕ, ap, subst, sym}
use Rattle.std.proofs.lemmas.Bool.{and_parts, leb-true}
use Rattle.std.specs.Str.{chars, IsCharBoundary}
use Rattle.line_editor.specs.Edits.{first_end, first_start, line_with, second_end, second_start, words_swapped}
use Rattle.line_editor.specs.Splits.{split_at}
use Rattle.line_editor.specs.States.{EditorState}
use Rattle.line_editor.specs.inside.Changes.{line_bytes}
use Rattle.line_editor.proofs.Acting.{changed_as}
use Rattle.line_editor.proofs.Wording.{line_with-same, swapped-shown, swapped_as, text-bytes, words_are, words_none, words_some}
use Rattle.line_editor.proofs.editor.Editor.transpose_words.Goals as goal

pub two_words-words-requires : goal.two_words-words-requires
two_words-words-requires g c =
    let P : List ℕ → Type 0 = λ t. IsCharBoundary t c.at.result in
    subst P (sym (text-bytes c.text-text.result.now c.line-line.result.now c.text-text.utf8 c.text-text.ensures.text)) c.at.ensures.boundary

pub returns-then-not-are_two-clause-ok : goal.returns-then-not-are_two-clause-ok
returns-then-not-are_two-clause-ok g c =
    let d = c.line-line.result.now in
    let text = c.text-text.result.now in
    let here = ap (λ t. split_at t c.at.result) (text-bytes text d c.text-text.utf8 c.text-text.ensures.text) ∙ c.at.ensures.place in
    let w = c.two_words-words.ensures in
    words_none c.args.self.now d (ap (λ (x : EditorState). x.line) (sym c.self.view_is) ∙ sym c.line-line.ensures)
    (sym (words_are text d c.text-text.utf8 _ _ _ _ (w.first_start ∙ ap first_start here) (w.first_end ∙ ap first_end here) (w.second_start ∙ ap second_start here) (w.second_end ∙ ap second_end here)
    w.from_first w.to_first w.from_second w.to_second) ∙ sym c.if-not-are_two.ensures)

pub replace-requires-clause-from : goal.replace-requires-clause-from
replace-requires-clause-from g c =
    let P : List ℕ → Type 0 = λ t. IsCharBoundary t c.two_words-words.result.first_start in
    subst P (text-bytes c.text-text.result.now c.line-line.result.now c.text-text.utf8 c.text-text.ensures.text ∙ ap line_bytes c.line-line.ensures) c.two_words-words.ensures.from_first

pub replace-requires-clause-to : goal.replace-requires-clause-to
replace-requires-clause-to g c =
    let P : List ℕ → Type 0 = λ t. IsCharBoundary t c.two_words-words.result.second_end in
    subst P (text-bytes c.text-text.result.now c.line-line.result.now c.text-text.utf8 c.text-text.ensures.text ∙ ap line_bytes c.line-line.ensures) c.two_words-words.ensures.to_second

pub replace-requires-clause-with : goal.replace-requires-clause-with
replace-requires-clause-with g c =
    let d = c.line-line.result.now in
    let text = c.text-text.result.now in
    let here = ap (λ t. split_at t c.at.result) (text-bytes text d c.text-text.utf8 c.text-text.ensures.text) ∙ c.at.ensures.place in
    let w = c.two_words-words.ensures in
    let gap = leb-true _ _ (and_parts _ _ (sym c.if-not-are_two.ensures)).1 in
    swapped-shown text d c.text-text.utf8 _ _ _ _ (w.first_start ∙ ap first_start here) (w.first_end ∙ ap first_end here) (w.second_start ∙ ap second_start here) (w.second_end ∙ ap second_end here)
    w.from_first w.to_first w.from_second w.to_second w.first gap w.second c.as_str.result.now (c.as_str.ensures.value ∙ c.in_ok-swapped.ensures) c.text-text.ensures.shown

pub returns-clause-ok : goal.returns-clause-ok
returns-clause-ok g c =
    let d = c.line-line.result.now in
    let text = c.text-text.result.now in
    let same = text-bytes text d c.text-text.utf8 c.text-text.ensures.text in
    let here = ap (λ t. split_at t c.at.result) same ∙ c.at.ensures.place in
    let w = c.two_words-words.ensures in
    let places = c.two_words-words.result in
    let gap = leb-true _ _ (and_parts _ _ (sym c.if-not-are_two.ensures)).1 in
    let are = words_are text d c.text-text.utf8 _ _ _ _ (w.first_start ∙ ap first_start here) (w.first_end ∙ ap first_end here) (w.second_start ∙ ap second_start here) (w.second_end ∙ ap second_end here)
    w.from_first w.to_first w.from_second w.to_second in
    let swapped : chars c.as_str.result.now ≡ words_swapped d =
    swapped_as text d c.text-text.utf8 _ _ _ _ (w.first_start ∙ ap first_start here) (w.first_end ∙ ap first_end here) (w.second_start ∙ ap second_start here) (w.second_end ∙ ap second_end here)
    w.from_first w.to_first w.from_second w.to_second w.first gap w.second c.as_str.result.now (c.as_str.ensures.value ∙ c.in_ok-swapped.ensures) in
    changed_as _ _ c.self.view_is _ _ c.in_ok-replace.ensures.ok
    ∙ words_some c.args.self.now d (ap (λ (x : EditorState). x.line) (sym c.self.view_is) ∙ sym c.line-line.ensures) (sym are ∙ sym c.if-not-are_two.ensures) _
    (ap (λ t. line_with (split_at t places.first_start) (chars c.as_str.result.now) (split_at t places.second_end)) (sym (same ∙ ap line_bytes c.line-line.ensures))
    ∙ line_with-same _ (first_start d) (chars c.as_str.result.now) (words_swapped d) _ (second_end d) (w.first_start ∙ ap first_start here) swapped (w.second_end ∙ ap second_end here))
