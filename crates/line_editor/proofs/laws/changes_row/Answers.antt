use Rattle.line_editor.proofs.Rowing.{changes_row}
use Rattle.line_editor.proofs.laws.changes_row.Goals as goal

pub returns : goal.returns
returns c = changes_row
