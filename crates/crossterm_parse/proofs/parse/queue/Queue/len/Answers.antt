use Rattle.std.proofs.Common.{arith}
use Rattle.crossterm_parse.proofs.parse.queue.Queue.len.Goals as goal

pub overflow_add-result : goal.overflow_add-result
overflow_add-result g c = record { fits = omega (arith, c.self.inside.events.small.0, c.self.inside.events.small.1, c.len.ensures.few, c.len-2.ensures) }
