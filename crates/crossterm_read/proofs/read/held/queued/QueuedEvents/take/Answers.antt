use Rattle.std.proofs.Common.{◌∙◌, ap, length, map, Some, refl, subst, sym, arith}
use Rattle.std.proofs.lemmas.List.{length-map}
use Rattle.crossterm_types.specs.Seen.{seen}
use Rattle.crossterm_read.specs.inside.Queues.{AreKept, joined, member_kept, queue_of, queues_of}
use Rattle.crossterm_read.proofs.Joining.{joined_same}
use Rattle.crossterm_read.proofs.Storing.{kept_same, kept_take, taken_length, taken_replies, untaken_delivers}
use Rattle.crossterm_read.proofs.read.held.queued.QueuedEvents.take.Goals as goal

pub invariant_of-self : goal.invariant_of-self
invariant_of-self g c =
    let h = c.self.inside in
    let kept = subst (λ o. AreKept o h.len h.limit h.next_order) c.in-Some.is c.self.invariant in
    (kept_take (λ m. g.F.Filter.admits c.args.filter.now (seen m.event)) c.in-Some.queues c.take.new.self c.in-Some-take.member h.len h.limit h.next_order kept c.in-Some-take.ensures.takes
    (c.in-Some-take.ensures.room h.limit kept.room)).0

pub invariant_of-self-in-None-take : goal.invariant_of-self-in-None-take
invariant_of-self-in-None-take g c =
    let h = c.self.inside in
    let kept = subst (λ o. AreKept o h.len h.limit h.next_order) c.in-Some.is c.self.invariant in
    kept_same (Some c.in-Some.queues) (Some c.take.new.self) h.len h.limit h.limit h.next_order kept c.in-None-take.ensures.takes.1 kept.fits (c.in-None-take.ensures.room h.limit kept.room)

pub returns-in-Some-take-clause-step : goal.returns-in-Some-take-clause-step
returns-in-Some-take-clause-step g c =
    let p = queue_of c.take.new.self in
    taken_replies (g.F.Filter.admits c.args.filter.now) (queue_of c.in-Some.queues) p c.in-Some-take.member c.args.self.now.store (record { held = map member_kept (joined p); arrivals = c.self.inside.arrivals })
    (sym (ap (λ s. s.store.held) c.self.view_is) ∙ ap (λ o. map member_kept (joined (queues_of o))) c.in-Some.is) refl (ap (λ s. s.store.arrivals) c.self.view_is) c.in-Some-take.ensures.takes

pub returns-in-Some-take-clause-room : goal.returns-in-Some-take-clause-room
returns-in-Some-take-clause-room g c =
    let h = c.self.inside in
    let p = queue_of c.take.new.self in
    let kept = subst (λ o. AreKept o h.len h.limit h.next_order) c.in-Some.is c.self.invariant in
    let shorter = taken_length (λ m. g.F.Filter.admits c.args.filter.now (seen m.event)) (queue_of c.in-Some.queues) p c.in-Some-take.member c.in-Some-take.ensures.takes in
    let held = ap length (sym (ap (λ s. s.store.held) c.self.view_is) ∙ ap (λ o. map member_kept (joined (queues_of o))) c.in-Some.is) ∙ length-map (joined (queue_of c.in-Some.queues)) member_kept in
    let left = length-map (joined p) member_kept in
    let room = ap (λ s. s.room) c.self.view_is in
    let count = kept.count in
    let fits = kept.fits in
    omega arith

pub returns-in-None-take-clause-step : goal.returns-in-None-take-clause-step
returns-in-None-take-clause-step g c =
    let q = queue_of c.in-Some.queues in
    let p = queue_of c.take.new.self in
    let held = sym (ap (λ s. s.store.held) c.self.view_is) ∙ ap (λ o. map member_kept (joined (queues_of o))) c.in-Some.is in
    let same = ap (λ l. map member_kept l) (joined_same p q c.in-None-take.ensures.takes.1) ∙ sym held in
    let arrivals = ap (λ s. s.store.arrivals) c.self.view_is in
    untaken_delivers (g.F.Filter.admits c.args.filter.now) q c.args.self.now.store (record { held = map member_kept (joined p); arrivals = c.self.inside.arrivals }) held
    (λ i. record { held = same i; arrivals = arrivals i }) c.in-None-take.ensures.takes.0

pub returns-in-None-take-clause-room : goal.returns-in-None-take-clause-room
returns-in-None-take-clause-room g c =
    let q = queue_of c.in-Some.queues in
    let p = queue_of c.take.new.self in
    let held = sym (ap (λ s. s.store.held) c.self.view_is) ∙ ap (λ o. map member_kept (joined (queues_of o))) c.in-Some.is in
    let same = ap length (ap (λ l. map member_kept l) (joined_same p q c.in-None-take.ensures.takes.1) ∙ sym held) in
    let room = ap (λ s. s.room) c.self.view_is in
    omega arith
