use Rattle.std.proofs.Common.{◌+◌, ◌-◌, ℕ, arith, refl, sym, ap, subst, ◌∙◌}
use mathlib.Core.Bool.{true≢false}
use Rattle.std.specs.Duration.{as_nanos}
use Rattle.crossterm_types.specs.Timing.{HasElapsed}
use Rattle.crossterm_read.specs.Steps.{Within}
use Rattle.crossterm_read.specs.Store.{ReaderState}
use Rattle.crossterm_read.proofs.Asking.{Asking, asking_none, asking_nothing, asked_broke, asked_refused, asked_tried, asks_none}
use Rattle.crossterm_read.proofs.Newest.{asked_came}
use Rattle.crossterm_read.proofs.Waiting.{lasts, limits_more, some_more}
use Rattle.crossterm_read.proofs.read.patience.InTimePatience.ask.Goals as goal

pub loop-init : goal.loop-init
loop-init g c = record {
  so_far = (
    0,
    asking_none g.row.A.Denot g.S.EventSource.drawn g.S.EventSource.failed g.met.S.EventSource.drawn_on _ _ g.met.S.EventSource.none_drawn c.args.reader.now c.args.reader.now refl c.requires.none,
    λ z. refl,
  );
  later = omega arith;
  first = λ from start b. b;
  limits = asks_none _ _;
  room = omega arith;
  rise = omega arith;
  can = tt;
  ends = tt;
}

pub returns-in-Came-clause-asked : goal.returns-in-Came-clause-asked
returns-in-Came-clause-asked g c =
    let n = c.loop.invariant.so_far.0 in
    asked_came g.row.A.Denot g.S.EventSource.drawn g.S.EventSource.failed g.met.S.EventSource.drawn_on _ _ _ c.loop.reader c.draw_in_time.new.self n (Within c.args.self.now.timeout.limit (g.C.Clock.latest c.draw_in_time.new.clock - as_nanos c.args.self.now.timeout.start)) _ c.loop.invariant.so_far.1
    (λ z. let y = c.loop.invariant.so_far.2 z in omega arith) c.in-Came.ensures.one

pub returns-in-Came-clause-place : goal.returns-in-Came-clause-place
returns-in-Came-clause-place g c = c.in-Came.ensures.one.5

pub returns-in-Broke-clause-asked : goal.returns-in-Broke-clause-asked
returns-in-Broke-clause-asked g c =
    let n = c.loop.invariant.so_far.0 in
    asked_broke g.row.A.Denot g.S.EventSource.drawn g.S.EventSource.failed g.met.S.EventSource.drawn_on _ _ _ c.loop.reader c.draw_in_time.new.self n (Within c.args.self.now.timeout.limit (g.C.Clock.latest c.draw_in_time.new.clock - as_nanos c.args.self.now.timeout.start)) c.in-Broke.error c.loop.invariant.so_far.1 (λ z. let y = c.loop.invariant.so_far.2 z in omega arith) c.in-Broke.ensures.one

pub returns-in-Refused-clause-asked : goal.returns-in-Refused-clause-asked
returns-in-Refused-clause-asked g c =
    let n = c.loop.invariant.so_far.0 in
    let so_far = subst (λ (t : ReaderState g.row.S.Denot). Asking g.row.A.Denot g.S.EventSource.drawn g.S.EventSource.failed g.met.S.EventSource.drawn_on c.args.at_wake (g.F.Filter.admits c.args.filter.now) c.args.reader.now t n)
    (sym c.in-Refused.ensures.one) c.loop.invariant.so_far.1 in
    let room = ap (λ (t : ReaderState g.row.S.Denot). t.room) c.in-Refused.ensures.one ∙ c.in-Refused.ensures.full tt in
    asked_refused g.row.A.Denot g.S.EventSource.drawn g.S.EventSource.failed g.met.S.EventSource.drawn_on _ _ c.args.reader.now c.draw_in_time.new.self n (Within c.args.self.now.timeout.limit (g.C.Clock.latest c.draw_in_time.new.clock - as_nanos c.args.self.now.timeout.start)) c.from.result so_far (λ z. let y = c.loop.invariant.so_far.2 z in omega arith) c.from.ensures
    (omega (arith, c.loop.invariant.room, c.in-Refused.ensures.room)) room

pub returns-then-elapsed-clause-asked : goal.returns-then-elapsed-clause-asked
returns-then-elapsed-clause-asked g c =
    let n = c.loop.invariant.so_far.0 in
    let so_far : Asking g.row.A.Denot g.S.EventSource.drawn g.S.EventSource.failed g.met.S.EventSource.drawn_on c.args.at_wake (g.F.Filter.admits c.args.filter.now) c.args.reader.now c.draw_in_time.new.self (n + 1) = asking_nothing g.row.A.Denot g.S.EventSource.drawn g.S.EventSource.failed g.met.S.EventSource.drawn_on _ _ _ c.loop.reader c.draw_in_time.new.self n c.loop.invariant.so_far.1 c.in-Nothing.ensures.one in
    asked_tried g.row.A.Denot g.S.EventSource.drawn g.S.EventSource.failed g.met.S.EventSource.drawn_on _ _ c.args.reader.now c.draw_in_time.new.self (n + 1) (Within c.args.self.now.timeout.limit (g.C.Clock.latest c.now.new.self - as_nanos c.args.self.now.timeout.start)) so_far record {
      begun = omega arith;
      once = λ z. let y = c.loop.invariant.so_far.2 z in omega arith;
      passed = subst (λ (n : ℕ). HasElapsed c.args.self.now.timeout n) c.now.ensures.latest (c.if-elapsed.ensures.0 refl);
    }

pub returns-in-Refused-clause-limits : goal.returns-in-Refused-clause-limits
returns-in-Refused-clause-limits g c =
    limits_more _ _ _ _ _ _ _ c.draw_in_time.ensures.later (omega (arith, c.requires.begins, c.loop.invariant.later, c.draw_in_time.ensures.later)) (omega arith) c.loop.invariant.limits c.draw_in_time.ensures.asked

pub returns-in-Broke-clause-limits : goal.returns-in-Broke-clause-limits
returns-in-Broke-clause-limits g c =
    limits_more _ _ _ _ _ _ _ c.draw_in_time.ensures.later (omega (arith, c.requires.begins, c.loop.invariant.later, c.draw_in_time.ensures.later)) (omega arith) c.loop.invariant.limits c.draw_in_time.ensures.asked

pub returns-in-Came-clause-limits : goal.returns-in-Came-clause-limits
returns-in-Came-clause-limits g c =
    limits_more _ _ _ _ _ _ _ c.draw_in_time.ensures.later (omega (arith, c.requires.begins, c.loop.invariant.later, c.draw_in_time.ensures.later)) (omega arith) c.loop.invariant.limits c.draw_in_time.ensures.asked

pub returns-then-elapsed-clause-limits : goal.returns-then-elapsed-clause-limits
returns-then-elapsed-clause-limits g c =
    limits_more _ _ _ _ _ _ _ (omega (arith, c.draw_in_time.ensures.later, c.now.ensures.later)) (omega (arith, c.requires.begins, c.loop.invariant.later, c.draw_in_time.ensures.later)) (omega (arith, c.now.ensures.later)) c.loop.invariant.limits c.draw_in_time.ensures.asked

pub returns-then-elapsed-clause-first : goal.returns-then-elapsed-clause-first
returns-then-elapsed-clause-first g c from start b = c.now.ensures.again _ _ (c.draw_in_time.ensures.first _ _ (c.loop.invariant.first _ _ b))

pub loop-preserved : goal.loop-preserved
loop-preserved g c =
    let n = c.loop.invariant.so_far.0 in
    let so_far : Asking g.row.A.Denot g.S.EventSource.drawn g.S.EventSource.failed g.met.S.EventSource.drawn_on c.args.at_wake (g.F.Filter.admits c.args.filter.now) c.args.reader.now c.draw_in_time.new.self (n + 1) = asking_nothing g.row.A.Denot g.S.EventSource.drawn g.S.EventSource.failed g.met.S.EventSource.drawn_on _ _ _ c.loop.reader c.draw_in_time.new.self n c.loop.invariant.so_far.1 c.in-Nothing.ensures.one in
    let lasting : HasElapsed c.args.self.now.timeout (as_nanos c.now.result) → ⊥ = λ h. true≢false (sym (c.if-elapsed.ensures.1 h)) in
    record {
      so_far = (n + 1, so_far, λ z. absurd (lasts c.args.self.now.timeout _ lasting z));
      later = omega (arith, c.loop.invariant.later, c.draw_in_time.ensures.later, c.now.ensures.later);
      first = λ from start b. c.now.ensures.again _ _ (c.draw_in_time.ensures.first _ _ (c.loop.invariant.first _ _ b));
      limits = some_more _ _ _ _ _ _ _ (omega (arith, c.draw_in_time.ensures.later, c.now.ensures.later)) (omega (arith, c.requires.begins, c.loop.invariant.later, c.draw_in_time.ensures.later)) (omega (arith, c.now.ensures.later))
          (λ h. lasting (subst (λ (n : ℕ). HasElapsed c.args.self.now.timeout n) (sym c.now.ensures.latest) h)) c.loop.invariant.limits c.draw_in_time.ensures.asked;
      room = omega (arith, c.loop.invariant.room, c.draw_in_time.ensures.room);
      rise = omega (arith, c.loop.invariant.rise, c.draw_in_time.ensures.rise);
      can = tt;
      ends = tt;
    }
