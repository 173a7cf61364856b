use Rattle.std.proofs.Common.{◌∙◌, sym, ap}
use Rattle.line_editor.specs.Edits.{erased}
use Rattle.line_editor.specs.States.{EditorState}
use Rattle.line_editor.proofs.Acting.{changed_as, erase_none, erase_some}
use Rattle.line_editor.proofs.editor.Editor.erase.Goals as goal

pub returns-then-is_nothing-clause-ok : goal.returns-then-is_nothing-clause-ok
returns-then-is_nothing-clause-ok g c =
    erase_none c.args.target c.args.self.now _ _ (ap (λ (w : EditorState). w.line) (sym c.self.view_is) ∙ sym c.line.ensures) c.cut.ensures.text c.if-is_nothing.ensures

pub returns-clause-ok : goal.returns-clause-ok
returns-clause-ok g c =
    let some = c.if-is_nothing.ensures in
    changed_as _ _ c.self.view_is _ _ c.in_ok-erase.ensures.ok
    ∙ erase_some c.args.target c.args.self.now _ _ (ap (λ (w : EditorState). w.line) (sym c.self.view_is) ∙ sym c.line.ensures) c.cut.ensures.text some.0 some.1 some.2 _
    (ap (erased c.args.target) (sym c.line.ensures))
