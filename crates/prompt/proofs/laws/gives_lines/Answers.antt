use Rattle.prompt.proofs.Lines.{gives_lines}
use Rattle.prompt.proofs.laws.gives_lines.Goals as goal

pub returns : goal.returns
returns g c v u w z given events lines calls = gives_lines calls
