use Rattle.std.proofs.Common.{◌≡◌, ◌∙◌, refl, sym, ap, subst, true}
use Rattle.std.specs.Prelude.{OnOk}
use Rattle.std.specs.Str.{chars, IsUtf8}
use Rattle.unicode_segmentation.proofs.TextLemmas.{chars-encode_utf8}
use Rattle.line_editor.specs.Shown.{comes_in}
use Rattle.line_editor.specs.States.{EditorState}
use Rattle.line_editor.proofs.Showing.{in-rows, shown-one}
use Rattle.line_editor.proofs.Acting.{type_some}
use Rattle.line_editor.proofs.editor.Editor.type_char.Goals as goal

pub returns-clause-ok : goal.returns-clause-ok
returns-clause-ok g c =
    let P : EditorState → Type 0 = λ w. OnOk c.type_text.result (c.type_text.new.self ≡ w) in
    let one = ap chars c.encode_utf8.ensures.value ∙ chars-encode_utf8 c.args.c (subst IsUtf8 c.encode_utf8.ensures.value c.encode_utf8.utf8) in
    subst P (type_some c.args.c c.args.self.now _ _ _ refl (ap (λ (w : EditorState). comes_in w.limits.multiline c.args.c) (sym c.self.view_is) ∙ sym c.comes_in.ensures ∙ c.if-not-comes_in.false) one refl) c.type_text.ensures.ok

pub type_text-requires : goal.type_text-requires
type_text-requires g c =
    let one = ap chars c.encode_utf8.ensures.value ∙ chars-encode_utf8 c.args.c (subst IsUtf8 c.encode_utf8.ensures.value c.encode_utf8.utf8) in
    shown-one true c.args.c _ one (in-rows _ c.args.c (sym c.comes_in.ensures ∙ c.if-not-comes_in.false))
