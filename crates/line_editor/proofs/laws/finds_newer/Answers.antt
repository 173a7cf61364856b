use Rattle.line_editor.proofs.Numbering.{finds_newer}
use Rattle.line_editor.proofs.laws.finds_newer.Goals as goal

pub returns : goal.returns
returns c = finds_newer
