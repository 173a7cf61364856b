use Rattle.std.proofs.Common.{◌∙◌, refl, sym, ap}
use Rattle.line_editor.specs.States.{EditorState, yanked}
use Rattle.line_editor.proofs.Acting.{changed_as, write_none, write_some}
use Rattle.line_editor.proofs.editor.Editor.yank.Goals as goal

pub returns-then-is_nothing-clause-ok : goal.returns-then-is_nothing-clause-ok
returns-then-is_nothing-clause-ok g c =
    write_none c.args.self.now c.self.inside.draft.line _ _ (ap (λ (w : EditorState). w.line) (sym c.self.view_is))
    (c.kill_at-text.ensures.text ∙ ap (λ (w : EditorState). yanked w) c.self.view_is) c.if-is_nothing.ensures

pub returns-clause-ok : goal.returns-clause-ok
returns-clause-ok g c =
    let some = c.if-is_nothing.ensures in
    changed_as _ _ c.self.view_is _ _ c.in_ok-put.ensures.ok
    ∙ write_some c.args.self.now c.self.inside.draft.line _ _ (ap (λ (w : EditorState). w.line) (sym c.self.view_is))
    (c.kill_at-text.ensures.text ∙ ap (λ (w : EditorState). yanked w) c.self.view_is) some.0 some.1 some.2 _
    refl
