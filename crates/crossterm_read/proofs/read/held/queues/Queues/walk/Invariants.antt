use Rattle.crossterm_types.specs.Seen.{seen}
use Rattle.crossterm_read.specs.inside.Queues.{queue_of}
use Rattle.crossterm_read.proofs.Joining.{Walked, left}
use Rattle.crossterm_read.proofs.read.held.queues.Queues.walk.Given as goal

abbrev pub invariant-loop-front : goal.invariant-loop-front
invariant-loop-front g l = Walked (λ m. g.F.Filter.admits l.filter (seen m.event)) (queue_of l.self) l.at

abbrev pub decreases-loop-front : goal.decreases-loop-front
decreases-loop-front g l = left (queue_of l.self) l.at
