use Rattle.line_editor.proofs.Numbering.{finds_nearest}
use Rattle.line_editor.proofs.laws.finds_nearest.Goals as goal

pub returns : goal.returns
returns c = finds_nearest
