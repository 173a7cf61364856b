use Rattle.std.proofs.Common.{◌≡◌, ◌++◌, List, ℕ, slice_range, subst, sym, ap, ◌∙◌, true}
use Rattle.std.proofs.lemmas.Str.{IsUtf8-string_bytes}
use Rattle.std.specs.Prelude.{OnOk}
use Rattle.std.specs.Str.{IsCharBoundary, chars}
use Rattle.std.specs.String.{string_bytes}
use Rattle.line_editor.specs.Edits.{line_with}
use Rattle.line_editor.specs.Splits.{Split, split_at}
use Rattle.line_editor.proofs.Changing.{line_bytes-line}
use Rattle.line_editor.proofs.Editing.{transposed_as}
use Rattle.line_editor.proofs.Showing.{shown-both, shown-part, shown-same}
use Rattle.line_editor.proofs.lines.Line.exchange.Goals as goal

pub splice-requires-clause-from : goal.splice-requires-clause-from
splice-requires-clause-from g c =
    let same = c.as_str-text.ensures.value ∙ sym (line_bytes-line (string_bytes c.self.inside.text) c.self.inside.at (IsUtf8-string_bytes c.self.inside.text) c.self.invariant.0 c.args.self.now c.self.view_is) in
    let P : List ℕ → Type 0 = λ t. IsCharBoundary t c.place_of-from.result in
    subst P same c.place_of-from.ensures.boundary

pub splice-requires-clause-to : goal.splice-requires-clause-to
splice-requires-clause-to g c =
    let same = c.as_str-text.ensures.value ∙ sym (line_bytes-line (string_bytes c.self.inside.text) c.self.inside.at (IsUtf8-string_bytes c.self.inside.text) c.self.invariant.0 c.args.self.now c.self.view_is) in
    let P : List ℕ → Type 0 = λ t. IsCharBoundary t c.place_of-to.result in
    subst P same c.place_of-to.ensures.boundary

pub splice-requires-clause-with : goal.splice-requires-clause-with
splice-requires-clause-with g c =
    let text = c.as_str-text.result.now in
    let u = c.as_str-text.utf8 in
    let all = shown-same true text _ c.as_str-text.ensures.value c.self.invariant.2 in
    let middle = c.meeting-middle.ensures in
    let from = c.place_of-from.ensures in
    let to = c.place_of-to.ensures in
    let first = shown-part true text u all _ _ middle.boundary to.boundary (to.on (search)) c.range.result.now c.range.ensures.value in
    let second = shown-part true text u all _ _ from.boundary middle.boundary (from.back (search)) c.range-2.result.now c.range-2.ensures.value in
    shown-both true c.range.result.now c.range-2.result.now c.as_str.result.now c.range.utf8 first second
    (c.as_str.ensures.value ∙ c.in_ok-push_str.ensures.bytes ∙ ap (λ t. t ++ c.range-2.result.now) c.in_ok-with.ensures.ok)

pub returns-clause-ok : goal.returns-clause-ok
returns-clause-ok g c =
    let same = c.as_str-text.ensures.value ∙ sym (line_bytes-line (string_bytes c.self.inside.text) c.self.inside.at (IsUtf8-string_bytes c.self.inside.text) c.self.invariant.0 c.args.self.now c.self.view_is) in
    let text = c.as_str-text.result.now in
    let P : Split → Type 0 = λ d. OnOk c.splice.result (c.splice.new.self ≡ d) in
    let middle = c.meeting-middle.ensures in
    let from = c.place_of-from.ensures in
    let to = c.place_of-to.ensures in
    let second = c.range-2.result.now in
    let with : c.as_str.result.now ≡ slice_range text c.meeting-middle.result c.place_of-to.result ++ slice_range text c.place_of-from.result c.meeting-middle.result =
    c.as_str.ensures.value ∙ c.in_ok-push_str.ensures.bytes ∙ ap (λ t. t ++ second) (c.in_ok-with.ensures.ok ∙ c.range.ensures.value)
    ∙ ap (λ t. slice_range text c.meeting-middle.result c.place_of-to.result ++ t) c.range-2.ensures.value in
    subst P (ap (λ t. line_with (split_at t c.place_of-from.result) (chars c.as_str.result.now) (split_at t c.place_of-to.result)) (sym same)
    ∙ transposed_as text _ _ _ _ _ _ _ c.as_str-text.ensures.value c.self.view_is c.as_str-text.utf8
    from.boundary middle.boundary to.boundary (from.back (search)) (to.on (search)) with middle.place from.place to.place) c.splice.ensures.ok
