use Rattle.crossterm_read.proofs.Moves.{forks}
use Rattle.crossterm_read.proofs.Sharing.{sits_more, mine_more}
use Rattle.crossterm_read.proofs.read.shared.slot.Slot.another.Goals as goal

pub another-requires-clause-rule : goal.another-requires-clause-rule
another-requires-clause-rule g c = let f = c.requires.first in forks g.S.EventSource.drawn _ _ f.0 f.1 f.2 f.4

pub in_slot-requires-clause-sits : goal.in_slot-requires-clause-sits
in_slot-requires-clause-sits g c = let f = c.requires.first in sits_more _ _ f.0 f.1 f.2 f.3 f.4 c.another.ensures.rule.1

pub in_slot-requires-clause-idle : goal.in_slot-requires-clause-idle
in_slot-requires-clause-idle g c = let f = c.requires.first in mine_more _ _ f.0 f.1 f.2 f.4 c.another.ensures.rule.1
