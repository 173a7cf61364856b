use Rattle.line_editor.proofs.Numbering.{finds_piece}
use Rattle.line_editor.proofs.laws.finds_piece.Goals as goal

pub returns : goal.returns
returns c = finds_piece
