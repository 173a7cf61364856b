use Rattle.std.proofs.Common.{◌∙◌, ap, map, sym}
use Rattle.crossterm_read.specs.inside.Queues.{joined, member_kept, queue_of, queues_of}
use Rattle.crossterm_read.proofs.Storing.{found_is}
use Rattle.crossterm_read.proofs.read.held.queued.QueuedEvents.holds.Goals as goal

pub returns-in-Some : goal.returns-in-Some
returns-in-Some g c =
    c.is_some.ensures
    ∙ found_is (g.F.Filter.admits c.args.filter.now) (queue_of c.in-Some.queues) c.place.result c.args.self.now.store.held
    (sym (ap (λ s. s.store.held) c.self.view_is) ∙ ap (λ o. map member_kept (joined (queues_of o))) c.in-Some.is) c.place.ensures
