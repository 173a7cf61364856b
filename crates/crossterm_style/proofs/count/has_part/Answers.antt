use Rattle.crossterm_style.proofs.CountLaws.{part_found}
use Rattle.crossterm_style.proofs.count.has_part.Goals as goal

pub returns : goal.returns
returns c = part_found _ _ _ c.contains.ensures.cases
