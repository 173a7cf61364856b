use Rattle.crossterm_style.proofs.MarkLaws.{part_held}
use Rattle.crossterm_style.proofs.value.marks.holds.Goals as goal

pub returns : goal.returns
returns c = part_held _ _ _ c.contains.ensures.cases
