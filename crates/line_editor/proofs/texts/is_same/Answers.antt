use Rattle.std.proofs.Common.{◌∙◌}
use Rattle.line_editor.proofs.Searching.{same-chars}
use Rattle.line_editor.proofs.texts.is_same.Goals as goal

pub returns : goal.returns
returns c = c.eq.ensures ∙ same-chars c.args.text.now c.args.other.now c.utf8.text c.utf8.other
