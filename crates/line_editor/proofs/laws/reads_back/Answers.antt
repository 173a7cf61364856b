use Rattle.line_editor.proofs.Naming.{reads_back}
use Rattle.line_editor.proofs.laws.reads_back.Goals as goal

pub returns : goal.returns
returns c = reads_back
