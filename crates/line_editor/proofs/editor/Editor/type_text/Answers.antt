use Rattle.std.specs.Str.{chars}
use Rattle.line_editor.specs.Edits.{inserted}
use Rattle.line_editor.proofs.Acting.{typed_as}
use Rattle.line_editor.proofs.editor.Editor.type_text.Goals as goal

pub returns-clause-ok : goal.returns-clause-ok
returns-clause-ok g c = typed_as _ _ c.self.view_is _ (inserted (chars c.args.text.now)) c.in_ok-type_text.ensures.ok
