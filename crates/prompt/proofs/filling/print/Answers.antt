use Rattle.std.proofs.Common.{◌+◌, min, ap, ◌∙◌}
use Rattle.prompt.proofs.filling.print.Goals as goal

pub returns-clause-behind : goal.returns-clause-behind
returns-clause-behind c = c.saturating_add.ensures ∙ ap (λ n. min (c.args.column + n) 65535) c.in_ok-used.ensures.used
