use Rattle.line_editor.proofs.Bounding.{stays_bounded}
use Rattle.line_editor.proofs.laws.stays_bounded.Goals as goal

pub returns : goal.returns
returns c = stays_bounded
