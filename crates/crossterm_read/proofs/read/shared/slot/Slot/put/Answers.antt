use Rattle.crossterm_read.proofs.Moves.{puts_as}
use Rattle.crossterm_read.proofs.read.shared.slot.Slot.put.Goals as goal

pub push_as-requires-clause-rule : goal.push_as-requires-clause-rule
push_as-requires-clause-rule g c = puts_as g.S.EventSource.drawn _ _ _ _ _ c.requires.produces
