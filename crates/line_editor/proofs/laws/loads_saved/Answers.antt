use Rattle.line_editor.proofs.Reloading.{loads_saved}
use Rattle.line_editor.proofs.laws.loads_saved.Goals as goal

pub returns : goal.returns
returns c = loads_saved
