use Rattle.crossterm_types.specs.Seen.{seen}
use Rattle.crossterm_read.specs.inside.Queues.{queue_of}
use Rattle.crossterm_read.proofs.Joining.{taken_out}
use Rattle.crossterm_read.proofs.read.held.queues.Queues.take.Goals as goal

pub returns-in-Some-clause-takes : goal.returns-in-Some-clause-takes
returns-in-Some-clause-takes g c =
    taken_out (λ m. g.F.Filter.admits c.args.filter.now (seen m.event)) (queue_of c.args.self.now) (queue_of c.remove.new.self) c.in-Some.place c.remove.result c.requires c.in-Some.ensures
    c.remove.ensures.some c.remove.ensures.value c.remove.ensures.parts
