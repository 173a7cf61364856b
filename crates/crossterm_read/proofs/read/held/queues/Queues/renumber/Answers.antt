use Rattle.std.proofs.Common.{◌≡◌, ℕ, cond, get_or, sym, subst, ◌∙◌, ap}
use Rattle.std.specs.List.{slice_set}
use Rattle.crossterm_read.specs.inside.Kinds.{queue_place, same_kind}
use Rattle.crossterm_read.specs.inside.Queues.{joined, queue_of}
use Rattle.crossterm_read.proofs.Joining.{fewer_left, front_there, renumber_keeps, renumbered_all, renumbered_on}
use Rattle.crossterm_read.proofs.read.held.queues.Queues.renumber.Goals as goal

pub loop-front-smaller : goal.loop-front-smaller
loop-front-smaller g c =
    let q = queue_of c.loop-front.self in
    let f = c.in-Some.front in
    let m = f.member.now in
    let there = front_there (q f.kind) (queue_place c.loop-front.at f.kind) m c.in-Some.ensures.1.0 c.in-Some.ensures.1.1 in
    let parts = c.set_order.ensures.parts m (there.1 ∙ ap (λ (i : ℕ). get_or (q f.kind) i m) (sym c.of.ensures)) in
    fewer_left q (queue_of c.set_order.new.self) c.loop-front.at c.after-at.result f.kind there.0
    (renumber_keeps q (queue_of c.set_order.new.self) f.kind c.of.result (record m { order = c.loop-front.next }) parts) c.after-at.ensures

pub loop-front-preserved : goal.loop-front-preserved
loop-front-preserved g c =
    let q = queue_of c.loop-front.self in
    let p = queue_of c.set_order.new.self in
    let f = c.in-Some.front in
    let m = f.member.now in
    let there = front_there (q f.kind) (queue_place c.loop-front.at f.kind) m c.in-Some.ensures.1.0 c.in-Some.ensures.1.1 in
    let parts = c.set_order.ensures.parts m (there.1 ∙ ap (λ (i : ℕ). get_or (q f.kind) i m) (sym c.of.ensures)) in
    record {
      order = renumbered_on (joined (queue_of c.args.self.now)) q c.loop-front.at c.loop-front.next c.loop-front.invariant.order f p c.after-at.result c.in-Some.ensures
          (λ k. subst (λ (at : ℕ). p k ≡ cond (same_kind k f.kind) (slice_set (q k) at (record m { order = c.loop-front.next })) (q k)) c.of.ensures (parts k)) c.after-at.ensures;
      room = λ n h. c.set_order.ensures.room n (c.loop-front.invariant.room n h);
    }

pub returns-clause-order : goal.returns-clause-order
returns-clause-order g c = (renumbered_all (joined (queue_of c.args.self.now)) (queue_of c.loop-front.self) c.loop-front.at c.loop-front.next c.loop-front.invariant.order c.in_default.ensures).0

pub returns-clause-next : goal.returns-clause-next
returns-clause-next g c = (renumbered_all (joined (queue_of c.args.self.now)) (queue_of c.loop-front.self) c.loop-front.at c.loop-front.next c.loop-front.invariant.order c.in_default.ensures).1
