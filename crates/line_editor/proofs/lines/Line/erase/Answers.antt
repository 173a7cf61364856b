use Rattle.std.proofs.Common.{◌≡◌, ◌∙◌, List, [], ℕ, ap, refl, subst, sym, true}
use Rattle.std.proofs.lemmas.Str.{IsUtf8-string_bytes}
use Rattle.std.specs.Prelude.{OnOk}
use Rattle.std.specs.Str.{IsCharBoundary, chars}
use Rattle.std.specs.String.{string_bytes}
use Rattle.line_editor.specs.Edits.{line_with}
use Rattle.line_editor.specs.Splits.{Split, split_at}
use Rattle.line_editor.proofs.Changing.{line_bytes-line}
use Rattle.line_editor.proofs.Editing.{erased_as}
use Rattle.line_editor.proofs.Showing.{shown-nothing}
use Rattle.line_editor.proofs.lines.Line.erase.Goals as goal

pub splice-requires-clause-from : goal.splice-requires-clause-from
splice-requires-clause-from g c =
    let same = c.as_str.ensures.value ∙ sym (line_bytes-line (string_bytes c.self.inside.text) c.self.inside.at (IsUtf8-string_bytes c.self.inside.text) c.self.invariant.0 c.args.self.now c.self.view_is) in
    let P : List ℕ → Type 0 = λ t. IsCharBoundary t c.reach-from.result.0 in
    subst P same c.reach-from.ensures.from

pub splice-requires-clause-to : goal.splice-requires-clause-to
splice-requires-clause-to g c =
    let same = c.as_str.ensures.value ∙ sym (line_bytes-line (string_bytes c.self.inside.text) c.self.inside.at (IsUtf8-string_bytes c.self.inside.text) c.self.invariant.0 c.args.self.now c.self.view_is) in
    let P : List ℕ → Type 0 = λ t. IsCharBoundary t c.reach-from.result.1 in
    subst P same c.reach-from.ensures.to

pub splice-requires-clause-with : goal.splice-requires-clause-with
splice-requires-clause-with g c = shown-nothing true _ refl

pub returns-clause-ok : goal.returns-clause-ok
returns-clause-ok g c =
    let same = c.as_str.ensures.value ∙ sym (line_bytes-line (string_bytes c.self.inside.text) c.self.inside.at (IsUtf8-string_bytes c.self.inside.text) c.self.invariant.0 c.args.self.now c.self.view_is) in
    let ends = c.reach-from.ensures in
    let P : Split → Type 0 = λ d. OnOk c.splice.result (c.splice.new.self ≡ d) in
    subst P (ap (λ t. line_with (split_at t c.reach-from.result.0) (chars []) (split_at t c.reach-from.result.1)) (sym same)
    ∙ erased_as c.args.target c.as_str.result.now _ _ _ _ _ c.as_str.ensures.value c.self.view_is ends.start ends.end _ refl) c.splice.ensures.ok
