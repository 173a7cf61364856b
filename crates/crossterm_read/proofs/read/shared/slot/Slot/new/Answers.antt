use Rattle.std.proofs.Common.{rules}
use Rattle.crossterm_read.proofs.Moves.{opens_as}
use Rattle.crossterm_read.proofs.read.shared.slot.Slot.new.Goals as goal

pub push_as-requires-clause-rule : goal.push_as-requires-clause-rule
push_as-requires-clause-rule g c = opens_as g.S.EventSource.drawn _ _ _ _ _ (search rules) (search rules) (search rules)
