use Rattle.std.proofs.Common.{◌∙◌}
use Rattle.numbers.proofs.laws.reads_back.Goals as goal

pub returns : goal.returns
returns g c = c.event_of.ensures ∙ c.of_meaning.ensures.known
