use Rattle.line_editor.proofs.Loading.{line_pushed}
use Rattle.line_editor.proofs.history.push_line.Goals as goal

pub returns : goal.returns
returns g c = line_pushed c.args.multiline _ c.args.line.now _ _ c.in_ok-push_saved.ensures c.in_ok-push.ensures.bytes
