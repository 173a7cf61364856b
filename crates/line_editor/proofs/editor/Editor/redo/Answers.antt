use Rattle.line_editor.proofs.Acting.{redone_as}
use Rattle.line_editor.proofs.editor.Editor.redo.Goals as goal

pub returns-clause-ok : goal.returns-clause-ok
returns-clause-ok g c = redone_as _ _ c.self.view_is _ c.in_ok-redo.ensures.ok
