use Rattle.std.proofs.Common.{◌∙◌, ap}
use Rattle.crossterm_parse.specs.Numbered.{numbered_by}
use Rattle.crossterm_parse.specs.declared.readings.Readings.{Readings}
use Rattle.crossterm_parse.proofs.numbered.Parameters.meaning.Goals as goal

pub returns : goal.returns
returns c = c.meaning.ensures ∙ ap (λ (r : Readings). numbered_by c.args.raw c.args.last r) c.readings.ensures
