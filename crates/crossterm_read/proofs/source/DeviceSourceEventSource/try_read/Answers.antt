use Rattle.std.proofs.Common.{ℕ, [], ◌∷◌, take, refl, sym, ap, subst, arith}
use Rattle.crossterm_read.specs.Device.{Bytes}
use Rattle.crossterm_read.specs.Answers.{Failed}
use Rattle.crossterm_read.proofs.Turning.{other_turn, waited_turn, again_turn, fresh_turn, none_left, some_left, just_answered, answered_some}
use Rattle.crossterm_read.proofs.source.DeviceSourceEventSource.try_read.Goals as goal

pub returns-in-Some-clause-drawn : goal.returns-in-Some-clause-drawn
returns-in-Some-clause-drawn g c =
    waited_turn g.D.Device.answering.answered g.D.Device.answering.none _ c.args.self.now c.next.new.self _ _ _ c.self.view_is c.in-Some.ensures.some refl c.next.ensures.represents refl

pub returns-then-self-clause-drawn : goal.returns-then-self-clause-drawn
returns-then-self-clause-drawn g c =
    again_turn g.D.Device.answering.answered g.D.Device.answering.none _ c.args.self.now c.next.new.self _ c.self.inside.device c.hand.new.self _ c.self.view_is c.in_default.ensures.none.0 (some_left _ _ _ _ _ c.if-self.true (omega arith)) refl c.next.ensures.represents c.hand.ensures.device c.hand.ensures.hands

pub returns-in-Ok-Resize-clause-drawn : goal.returns-in-Ok-Resize-clause-drawn
returns-in-Ok-Resize-clause-drawn g c =
    let t = rw (c.in-Ok-Resize.field-0-is) at c.in-Ok-Resize.ensures in
    other_turn g.D.Device.answering.answered _ c.args.self.now c.next.new.self _ c.answer.new.self _ _ c.self.view_is c.in_default.ensures.none.0 c.in_default.ensures.none.1
    (none_left c.self.inside.from c.self.inside.end _ _ _ (omega arith)) (none_left c.self.inside.from c.self.inside.end _ _ _ (omega arith)) c.next.ensures.represents c.next.ensures.capacity t.answered refl

pub returns-in-Ok-Woken-clause-drawn : goal.returns-in-Ok-Woken-clause-drawn
returns-in-Ok-Woken-clause-drawn g c =
    let t = rw (c.in-Ok-Woken.field-0-is) at c.in-Ok-Woken.ensures in
    other_turn g.D.Device.answering.answered _ c.args.self.now c.next.new.self _ c.answer.new.self _ _ c.self.view_is c.in_default.ensures.none.0 c.in_default.ensures.none.1
    (none_left c.self.inside.from c.self.inside.end _ _ _ (omega arith)) (none_left c.self.inside.from c.self.inside.end _ _ _ (omega arith)) c.next.ensures.represents c.next.ensures.capacity t.answered (ap Failed c.from-in-Ok-Woken.ensures)

pub returns-in-Ok-Idle-clause-drawn : goal.returns-in-Ok-Idle-clause-drawn
returns-in-Ok-Idle-clause-drawn g c =
    let t = rw (c.in-Ok-Idle.field-0-is) at c.in-Ok-Idle.ensures in
    other_turn g.D.Device.answering.answered _ c.args.self.now c.next.new.self _ c.answer.new.self _ _ c.self.view_is c.in_default.ensures.none.0 c.in_default.ensures.none.1
    (none_left c.self.inside.from c.self.inside.end _ _ _ (omega arith)) (none_left c.self.inside.from c.self.inside.end _ _ _ (omega arith)) c.next.ensures.represents c.next.ensures.capacity t.answered refl

pub returns-in-Err-clause-drawn : goal.returns-in-Err-clause-drawn
returns-in-Err-clause-drawn g c =
    other_turn g.D.Device.answering.answered _ c.args.self.now c.next.new.self _ c.answer.new.self _ _ c.self.view_is c.in_default.ensures.none.0 c.in_default.ensures.none.1
    (none_left c.self.inside.from c.self.inside.end _ _ _ (omega arith)) (none_left c.self.inside.from c.self.inside.end _ _ _ (omega arith)) c.next.ensures.represents c.next.ensures.capacity c.in-Err.ensures.answered refl

pub returns-then-count-eq0-clause-drawn : goal.returns-then-count-eq0-clause-drawn
returns-then-count-eq0-clause-drawn g c =
    let t = rw (c.in-Ok-Bytes.field-0-is) at c.in-Ok-Bytes.ensures in
    other_turn g.D.Device.answering.answered _ c.args.self.now c.next.new.self _ c.answer.new.self _ _ c.self.view_is c.in_default.ensures.none.0 c.in_default.ensures.none.1
    (none_left c.self.inside.from c.self.inside.end _ _ _ (omega arith)) (none_left c.self.inside.from c.self.inside.end _ _ _ (omega arith)) c.next.ensures.represents c.next.ensures.capacity
    (subst (λ (n : ℕ). g.D.Device.answering.answered c.self.inside.device (Bytes (take n c.answer.new.buf) c.in-Ok-Bytes.raw ∷ []) c.answer.new.self) c.if-count-eq0.true t.answered) (ap Failed c.from.ensures)

pub returns-else-count-eq0-clause-drawn : goal.returns-else-count-eq0-clause-drawn
returns-else-count-eq0-clause-drawn g c =
    let t = rw (c.in-Ok-Bytes.field-0-is) at c.in-Ok-Bytes.ensures in
    fresh_turn g.D.Device.answering.answered _ c.args.self.now c.next.new.self _ c.answer.new.self c.hand-in-Ok-Bytes.new.self _ _ _ c.self.view_is c.in_default.ensures.none.0
    (none_left c.self.inside.from c.self.inside.end _ _ _ (omega arith)) (answered_some c.in-Ok-Bytes.count c.answer.new.buf (omega (arith, t.count)) (c.if-count-eq0.false))
    (just_answered c.in-Ok-Bytes.count c.answer.new.buf _ (omega (arith, t.count))) c.next.ensures.represents
    (subst (λ (x : g.row.D.Denot). g.D.Device.answering.answered c.self.inside.device (Bytes (take c.in-Ok-Bytes.count c.answer.new.buf) c.in-Ok-Bytes.raw ∷ []) x) (sym c.hand-in-Ok-Bytes.ensures.device) t.answered)
    c.hand-in-Ok-Bytes.ensures.hands
