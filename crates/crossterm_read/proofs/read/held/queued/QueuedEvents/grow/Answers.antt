use Rattle.std.proofs.Common.{◌∙◌, Some, ap, map, subst, sym, arith}
use Rattle.crossterm_read.specs.inside.Queues.{AreKept, joined, member_kept, queue_of, queues_of}
use Rattle.crossterm_read.specs.Store.{Holding}
use Rattle.crossterm_read.proofs.Joining.{part_fits}
use Rattle.crossterm_read.proofs.Storing.{kept_same, same_held}
use Rattle.crossterm_read.proofs.read.held.queued.QueuedEvents.grow.Goals.{in-Some-1, in-None-1}
use Rattle.crossterm_read.proofs.read.held.queued.QueuedEvents.grow.Goals as goal

pub reserve_beyond-requires : goal.reserve_beyond-requires
reserve_beyond-requires g c =
    let h = c.self.inside in
    let kept = subst (λ o. AreKept o h.len h.limit h.next_order) c.in-Some.is c.self.invariant in
    let count = kept.count in
    let twice = c.saturating_mul.ensures in
    let more = c.max-more.ensures in
    let ranges = c.self.ranges in
    λ k. let few = part_fits (queue_of c.in-Some.queues) kept.joins k in omega arith

pub invariant_of-self : goal.invariant_of-self
invariant_of-self g c =
    let h = c.self.inside in
    let kept = subst (λ o. AreKept o h.len h.limit h.next_order) c.in-Some.is c.self.invariant in
    let twice = c.saturating_mul.ensures in
    let more = c.max-more.ensures in
    let ranges = c.self.ranges in
    let room = c.in-Ok.ensures.room in
    let beyond = room.0 in
    kept_same (Some c.in-Some.queues) (Some c.reserve_beyond.new.self) h.len h.limit c.in-Ok.limit h.next_order kept c.in-Ok.ensures.same (omega arith) room.1

pub invariant_of-self-in-Err : goal.invariant_of-self-in-Err
invariant_of-self-in-Err g c =
    let h = c.self.inside in
    let kept = subst (λ o. AreKept o h.len h.limit h.next_order) c.in-Some.is c.self.invariant in
    kept_same (Some c.in-Some.queues) (Some c.reserve_beyond.new.self) h.len h.limit h.limit h.next_order kept c.in-Err.ensures.same kept.fits (c.in-Err.ensures.kept h.limit kept.room)

pub invariant_of-self-in_ok-self-inside-in-None-2 : goal.invariant_of-self-in_ok-self-inside-in-None-2
invariant_of-self-in_ok-self-inside-in-None-2 g c =
    let h = c.self.inside in
    let twice = c.saturating_mul.ensures in
    let more = c.max-more.ensures in
    let ranges = c.self.ranges in
    let room = c.in_ok-self-inside-in-None.ensures.room in
    let beyond = room.0 in
    kept_same h.queues (Some c.reserve_beyond-in-None.new.self) h.len h.limit c.in_ok-self-inside-in-None.field-0 h.next_order c.self.invariant
    (λ k. c.in_ok-self-inside-in-None.ensures.same k ∙ c.in_ok-queues-in-None.ensures k ∙ ap (λ o. queues_of o k) (sym c.in-None.is)) (omega arith) room.1

pub returns-in-Err-clause-store : goal.returns-in-Err-clause-store
returns-in-Err-clause-store g c =
    let held = same_held (Some c.in-Some.queues) (Some c.reserve_beyond.new.self) c.in-Err.ensures.same ∙ ap (λ o. map member_kept (joined (queues_of o))) (sym c.in-Some.is) ∙ ap (λ s. s.store.held) c.self.view_is in
    let arrivals = ap (λ s. s.store.arrivals) c.self.view_is in
    λ i. record { held = held i; arrivals = arrivals i }

pub returns-in-Err-clause-err : goal.returns-in-Err-clause-err
returns-in-Err-clause-err g c =
    let store = returns-in-Err-clause-store g c in
    let room = ap (λ s. s.room) c.self.view_is in
    λ i. record { store = store i; room = room i }

pub returns-in-Ok-clause-store : goal.returns-in-Ok-clause-store
returns-in-Ok-clause-store g c =
    let held = same_held (Some c.in-Some.queues) (Some c.reserve_beyond.new.self) c.in-Ok.ensures.same ∙ ap (λ o. map member_kept (joined (queues_of o))) (sym c.in-Some.is) ∙ ap (λ s. s.store.held) c.self.view_is in
    let arrivals = ap (λ s. s.store.arrivals) c.self.view_is in
    λ i. record { held = held i; arrivals = arrivals i }

pub returns-in_ok-self-inside-in-None-clause-store : goal.returns-in_ok-self-inside-in-None-clause-store
returns-in_ok-self-inside-in-None-clause-store g c =
    let held = same_held c.self.inside.queues (Some c.reserve_beyond-in-None.new.self)
    (λ k. c.in_ok-self-inside-in-None.ensures.same k ∙ c.in_ok-queues-in-None.ensures k ∙ ap (λ o. queues_of o k) (sym c.in-None.is)) ∙ ap (λ s. s.store.held) c.self.view_is in
    let arrivals = ap (λ s. s.store.arrivals) c.self.view_is in
    elim c.match-self-2.branch [
      | in-Some-1 w ↦ ap (λ (s : Holding). s.store) w.self-is ∙ (λ i. record { held = held i; arrivals = arrivals i })
      | in-None-1 w ↦ ap (λ (s : Holding). s.store) w.self-is ∙ (λ i. record { held = held i; arrivals = arrivals i })
    ]

pub returns-in_ok-self-inside-in-None-clause-ok : goal.returns-in_ok-self-inside-in-None-clause-ok
returns-in_ok-self-inside-in-None-clause-ok g c =
    let twice = c.saturating_mul.ensures in
    let more = c.max-more.ensures in
    let ranges = c.self.ranges in
    let beyond = c.in_ok-self-inside-in-None.ensures.room.0 in
    elim c.match-self-2.branch [
      | in-Some-1 w ↦ let is = ap (λ (s : Holding). s.room) w.self-is in omega arith
      | in-None-1 w ↦ let is = ap (λ (s : Holding). s.room) w.self-is in omega arith
    ]
