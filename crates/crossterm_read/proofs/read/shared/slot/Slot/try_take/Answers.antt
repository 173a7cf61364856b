use Rattle.crossterm_read.proofs.Moves.{takes_as}
use Rattle.crossterm_read.proofs.read.shared.slot.Slot.try_take.Goals as goal

pub pop_as-requires-clause-rule : goal.pop_as-requires-clause-rule
pop_as-requires-clause-rule g c = let o = c.requires.opened in takes_as g.S.EventSource.drawn _ _ o.0 o.1
