use Rattle.std.proofs.Common.{◌≡◌, ◌≢◌, [], ◌∷◌, ◌++◌, sym, ap, subst, ◌∙◌, append-nil, arith}
use Rattle.std.specs.IoError.{error_kind}
use Rattle.std.specs.declared.io.ErrorKind.TheVariants.{Interrupted}
use Rattle.crossterm_types.specs.Seen.{seen}
use Rattle.crossterm_read.specs.Answers.{Gave, Nothing, Failed}
use Rattle.crossterm_read.specs.declared.read.reader.AtWake.TheVariants.{Stops, GoesOn}
use Rattle.crossterm_read.specs.declared.read.reader.Once.TheVariants as once
use Rattle.crossterm_read.specs.Store.{EventStore, Holding, ReaderState, Arrives}
use Rattle.crossterm_read.specs.inside.Asking.{held_with}
use Rattle.crossterm_read.proofs.Asking.{draws_from}
use Rattle.crossterm_read.proofs.Numbers.{came_arrives, orderly_arrives}
use Rattle.crossterm_read.proofs.read.reader.InternalEventReader.draw.Goals.{in-GoesOn+else-is_woken, in-Stops}
use Rattle.crossterm_read.proofs.read.reader.InternalEventReader.draw.Goals as goal

-- the store after an answer without an event
same : (s t : EventStore) → t ≡ s → (t.held ≡ s.held ++ []) × (t.arrivals ≡ s.arrivals)
same s t e = (ap (λ (y : EventStore). y.held) e ∙ sym (append-nil s.held), ap (λ (y : EventStore). y.arrivals) e)

stops_not : Stops ≡ GoesOn → ⊥
stops_not e = absurd (cc)

pub returns-then-admitted-clause-one : goal.returns-then-admitted-clause-one
returns-then-admitted-clause-one g c =
    let d = rw c.in-Ok-Some.field-0-is at c.in-Ok-Some.ensures in
    let admitted = rw c.in-Ok-Some.field-0-is at c.eval-admitted.ensures in
    let x = seen c.in-Ok-Some.event in
    let s = c.self.inside.held.store in
    let t = c.next_number-number.new.self in
    let n = c.next_number-number.ensures in
    let arrives = came_arrives s c.reserve.new.self.store t.store x c.next_number-number.result c.reserve.ensures.store n.number n.held n.arrivals in
    rw c.in-Ok-Some.field-0-is (draws_from g.row.A.Denot g.S.EventSource.drawn g.S.EventSource.failed g.met.S.EventSource.drawn_on c.args.at_wake (g.F.Filter.admits c.args.filter.now) _ c.args.self.now
    (record { store = t.store; room = t.room; source = c.try_read.new.self })
    (once.Came (record { event = c.in-Ok-Some.event; number = c.next_number-number.result })) c.self.view_is
    (d.drawn, arrives, sym admitted ∙ c.if-admitted.true, d.ok, n.held ∙ ap (λ (y : EventStore). y.held) c.reserve.ensures.store, (omega (arith, c.in-Ok.ensures.ok, n.room), orderly_arrives s (held_with t.store (x, c.next_number-number.result)) x c.self.invariant arrives)))

pub returns-else-admitted-clause-one : goal.returns-else-admitted-clause-one
returns-else-admitted-clause-one g c =
    let d = rw c.in-Ok-Some.field-0-is at c.in-Ok-Some.ensures in
    let admitted = rw c.in-Ok-Some.field-0-is at c.eval-admitted.ensures in
    let x = seen c.in-Ok-Some.event in
    let s = c.self.inside.held.store in
    let n = c.next_number-number.ensures in
    let arrives = came_arrives s c.reserve.new.self.store c.next_number-number.new.self.store x c.next_number-number.result c.reserve.ensures.store n.number n.held n.arrivals in
    let pushed = rw c.in-Ok-Some.field-0-is at c.push_reserved.ensures.store in
    let held = subst (λ (y : EventStore). Arrives s (Gave x ∷ []) y) (sym pushed) arrives in
    draws_from g.row.A.Denot g.S.EventSource.drawn g.S.EventSource.failed g.met.S.EventSource.drawn_on c.args.at_wake (g.F.Filter.admits c.args.filter.now) _ c.args.self.now
    (record { store = c.push_reserved.new.self.store; room = c.push_reserved.new.self.room; source = c.try_read.new.self })
    once.Nothing c.self.view_is (Gave x, d.drawn, held, sym admitted ∙ c.if-admitted.false, λ none. d.ok)

pub returns-then-is_woken-clause-one : goal.returns-then-is_woken-clause-one
returns-then-is_woken-clause-one g c =
    let e = same c.self.inside.held.store c.reserve.new.self.store c.reserve.ensures.store in
    draws_from g.row.A.Denot g.S.EventSource.drawn g.S.EventSource.failed g.met.S.EventSource.drawn_on c.args.at_wake (g.F.Filter.admits c.args.filter.now) _ c.args.self.now
    (record { store = c.reserve.new.self.store; room = c.reserve.new.self.room; source = c.try_read.new.self })
    once.Nothing c.self.view_is
    (Failed (error_kind c.in-Err-try_read.error), c.in-Err-try_read.ensures.drawn, record { held = e.0; arrivals = e.1 }, (c.in-GoesOn.is, c.if-is_woken.ensures.yes), λ none. absurd none)

pub returns-in-Err-clause-one : goal.returns-in-Err-clause-one
returns-in-Err-clause-one g c =
    let reader : Holding → ReaderState g.row.S.Denot = λ h. record { store = h.store; room = h.room; source = c.self.inside.source } in
    ap reader c.in-Err.ensures.err.0 ∙ c.self.view_is

pub returns-in-Ok-None-clause-one : goal.returns-in-Ok-None-clause-one
returns-in-Ok-None-clause-one g c =
    let d = rw c.in-Ok-None.field-0-is at c.in-Ok-None.ensures in
    let e = same c.self.inside.held.store c.reserve.new.self.store c.reserve.ensures.store in
    draws_from g.row.A.Denot g.S.EventSource.drawn g.S.EventSource.failed g.met.S.EventSource.drawn_on c.args.at_wake (g.F.Filter.admits c.args.filter.now) _ c.args.self.now
    (record { store = c.reserve.new.self.store; room = c.reserve.new.self.room; source = c.try_read.new.self })
    once.Nothing c.self.view_is (Nothing, d.drawn, record { held = e.0; arrivals = e.1 }, tt, λ none. d.ok)

pub returns-after-at_wake-clause-one : goal.returns-after-at_wake-clause-one
returns-after-at_wake-clause-one g c =
    let e = same c.self.inside.held.store c.reserve.new.self.store c.reserve.ensures.store in
    let other : c.args.at_wake ≡ GoesOn → error_kind c.in-Err-try_read.error ≢ Interrupted = λ goes. elim c.match-at_wake.branch [
      | in-GoesOn+else-is_woken w ↦ w.if-is_woken.ensures.no
      | in-Stops w ↦ absurd (stops_not (sym w.in-Stops.is ∙ goes))
    ] in
    draws_from g.row.A.Denot g.S.EventSource.drawn g.S.EventSource.failed g.met.S.EventSource.drawn_on c.args.at_wake (g.F.Filter.admits c.args.filter.now) _ c.args.self.now
    (record { store = c.reserve.new.self.store; room = c.reserve.new.self.room; source = c.try_read.new.self })
    (once.Broke c.in-Err-try_read.error) c.self.view_is (c.in-Err-try_read.ensures.drawn, record { held = e.0; arrivals = e.1 }, other)

pub invariant_of-self-in-Ok-Some : goal.invariant_of-self-in-Ok-Some
invariant_of-self-in-Ok-Some g c =
    let x = seen c.in-Ok-Some.event in
    let s = c.self.inside.held.store in
    let n = c.next_number-number.ensures in
    let arrives = came_arrives s c.reserve.new.self.store c.next_number-number.new.self.store x c.next_number-number.result c.reserve.ensures.store n.number n.held n.arrivals in
    let pushed = rw c.in-Ok-Some.field-0-is at c.push_reserved.ensures.store in
    orderly_arrives s c.push_reserved.new.self.store x c.self.invariant (subst (λ (y : EventStore). Arrives s (Gave x ∷ []) y) (sym pushed) arrives)
