use Rattle.std.proofs.Common.{ap, sym}
use Rattle.crossterm_read.specs.inside.Queues.{queues_of}
use Rattle.crossterm_read.proofs.Storing.{all_at_fronts}
use Rattle.crossterm_read.proofs.read.held.queued.QueuedEvents.iter.Goals as goal

pub returns : goal.returns
returns g c = all_at_fronts (queues_of c.self.inside.queues) c.args.self.now.store.held (sym (ap (λ s. s.store.held) c.self.view_is))
