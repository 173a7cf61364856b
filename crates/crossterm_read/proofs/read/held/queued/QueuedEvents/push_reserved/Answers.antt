use Rattle.std.proofs.Common.{◌∙◌, ap, map, refl, subst, sym, arith}
use Rattle.crossterm_read.specs.inside.Queues.{AreKept, joined, member_kept, queue_of, queues_of}
use Rattle.crossterm_read.specs.declared.read.held.queues.Member.{Member}
use Rattle.crossterm_read.proofs.Joining.{joins_push, part_fits}
use Rattle.crossterm_read.proofs.Storing.{kept_push, pushed_held, same_length}
use Rattle.crossterm_read.proofs.read.held.queued.QueuedEvents.push_reserved.Goals as goal

pub push_reserved-requires : goal.push_reserved-requires
push_reserved-requires g c =
    let h = c.self.inside in
    let q = queue_of c.order_from-order.new.self in
    let kept = subst (λ o. AreKept o h.len h.limit h.next_order) c.in-Some.is c.self.invariant in
    let room = ap (λ s. s.room) c.self.view_is in
    let more = c.requires in
    let count = same_length (joined q) (joined (queue_of c.in-Some.queues)) c.order_from-order.ensures.same ∙ kept.count in
    (h.limit, c.order_from-order.ensures.room h.limit kept.room, λ k. let few = part_fits q c.order_from-order.ensures.joins k in omega arith)

pub invariant_of-self : goal.invariant_of-self
invariant_of-self g c =
    let h = c.self.inside in
    let q = queue_of c.order_from-order.new.self in
    let p = queue_of c.push_reserved.new.self in
    let kept = subst (λ o. AreKept o h.len h.limit h.next_order) c.in-Some.is c.self.invariant in
    let room = ap (λ s. s.room) c.self.view_is in
    let more = c.requires in
    let m : Member g.row.A.Denot = record { event = c.args.taken.event; arrival = c.args.taken.number; order = c.order_from-order.result } in
    let done = c.order_from-order.ensures in
    kept_push c.order_from-order.new.self c.push_reserved.new.self m h.len h.limit done.joins done.below (same_length (joined q) (joined (queue_of c.in-Some.queues)) done.same ∙ kept.count) (omega arith)
    (joins_push (joined q) q p m done.joins done.below c.push_reserved.ensures.parts) (c.push_reserved.ensures.room h.limit (done.room h.limit kept.room))

pub returns-clause-store : goal.returns-clause-store
returns-clause-store g c =
    let h = c.self.inside in
    let q = queue_of c.order_from-order.new.self in
    let p = queue_of c.push_reserved.new.self in
    let m : Member g.row.A.Denot = record { event = c.args.taken.event; arrival = c.args.taken.number; order = c.order_from-order.result } in
    let done = c.order_from-order.ensures in
    let arrivals = ap (λ s. s.store.arrivals) c.self.view_is in
    pushed_held q p m c.args.self.now.store (record { held = map member_kept (joined p); arrivals = h.arrivals })
    (sym (ap (λ s. s.store.held) c.self.view_is) ∙ ap (λ o. map member_kept (joined (queues_of o))) c.in-Some.is ∙ sym done.same) refl arrivals
    (joins_push (joined q) q p m done.joins done.below c.push_reserved.ensures.parts)
