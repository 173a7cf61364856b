use Rattle.line_editor.proofs.Acting.{undone_as}
use Rattle.line_editor.proofs.editor.Editor.undo.Goals as goal

pub returns-clause-ok : goal.returns-clause-ok
returns-clause-ok g c = undone_as _ _ c.self.view_is _ c.in_ok-undo.ensures.ok
