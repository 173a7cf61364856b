use Rattle.line_editor.proofs.Browsing.{comes_back}
use Rattle.line_editor.proofs.laws.comes_back.Goals as goal

pub returns : goal.returns
returns c = comes_back
