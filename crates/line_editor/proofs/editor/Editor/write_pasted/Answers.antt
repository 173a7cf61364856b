use Rattle.std.proofs.Common.{◌∙◌, sym, ap}
use Rattle.std.specs.Str.{chars}
use Rattle.line_editor.specs.Edits.{inserted}
use Rattle.line_editor.specs.Shown.{pasted_part}
use Rattle.line_editor.specs.States.{EditorState}
use Rattle.line_editor.proofs.Acting.{changed_as, write_none, write_some}
use Rattle.line_editor.proofs.editor.Editor.write_pasted.Goals as goal

pub returns-then-is_nothing-clause-ok : goal.returns-then-is_nothing-clause-ok
returns-then-is_nothing-clause-ok g c =
    write_none c.args.self.now c.self.inside.draft.line _ _ (ap (λ (w : EditorState). w.line) (sym c.self.view_is))
    (ap chars c.as_str.ensures.value ∙ c.in_ok-text.ensures.text ∙ ap (λ (w : EditorState). pasted_part w.limits.multiline (chars c.args.text.now)) c.self.view_is) c.if-is_nothing.ensures

pub returns-clause-ok : goal.returns-clause-ok
returns-clause-ok g c =
    let some = c.if-is_nothing.ensures in
    changed_as _ _ c.self.view_is _ _ c.in_ok-put.ensures.ok
    ∙ write_some c.args.self.now c.self.inside.draft.line _ _ (ap (λ (w : EditorState). w.line) (sym c.self.view_is))
    (ap chars c.as_str.ensures.value ∙ c.in_ok-text.ensures.text ∙ ap (λ (w : EditorState). pasted_part w.limits.multiline (chars c.args.text.now)) c.self.view_is) some.0 some.1 some.2 _
    (ap (λ t. inserted (chars t) c.self.inside.draft.line) (c.as_str-2.ensures.value ∙ sym c.as_str.ensures.value))
