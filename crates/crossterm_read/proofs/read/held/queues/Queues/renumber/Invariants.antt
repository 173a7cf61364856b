use Rattle.std.proofs.Common.{ℕ}
use Rattle.crossterm_read.specs.inside.Queues.{HaveRoom, joined, queue_of}
use Rattle.crossterm_read.proofs.Joining.{Renumbered, left}
use Rattle.crossterm_read.proofs.read.held.queues.Queues.renumber.Given as goal

abbrev pub invariant-loop-front : goal.invariant-loop-front
invariant-loop-front g l = record {
  order : Renumbered (joined (queue_of l.fn.self)) (queue_of l.self) l.at l.next;
  room : (n : ℕ) → HaveRoom l.fn.self n → HaveRoom l.self n;
}

abbrev pub decreases-loop-front : goal.decreases-loop-front
decreases-loop-front g l = left (queue_of l.self) l.at
