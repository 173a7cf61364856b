use Rattle.std.proofs.Common.{Some, ap, subst, sym, ◌∙◌}
use Rattle.crossterm_read.proofs.Asking.{none_of, poll_came, poll_fault, poll_held, poll_tried, poll_woken, steady_poll}
use Rattle.crossterm_read.proofs.read.reader.InternalEventReader.poll_while.Goals as goal

pub ask-requires-clause-none : goal.ask-requires-clause-none
ask-requires-clause-none g c = none_of _ (sym c.holds.ensures ∙ c.if-holds.false)

pub returns-then-holds-clause-step : goal.returns-then-holds-clause-step
returns-then-holds-clause-step g c =
    poll_held g.S.EventSource.drawn g.met.S.EventSource.none_drawn g.S.EventSource.failed (g.F.Filter.admits c.args.filter.now) (g.P.Patience.lasted c.args.patience.now (g.C.Clock.latest c.args.clock.now)) c.args.self.now (sym c.holds.ensures ∙ c.if-holds.true)

pub returns-then-holds-clause-limits : goal.returns-then-holds-clause-limits
returns-then-holds-clause-limits g c = g.met.P.Patience.limits_none c.args.patience.now (g.C.Clock.latest c.args.clock.now) (g.S.EventSource.asked c.args.self.now.source)

pub returns-in-Ok-Some-clause-step : goal.returns-in-Ok-Some-clause-step
returns-in-Ok-Some-clause-step g c = poll_came g.S.EventSource.drawn g.S.EventSource.failed _ (g.P.Patience.lasted c.args.patience.now (g.C.Clock.latest c.ask.new.clock)) c.args.self.now c.hold.new.self c.ask.new.reader c.in-Ok-Some.taken (rw c.in-Ok-Some.field-0-is at c.in-Ok-Some.ensures).asked c.hold.ensures.store c.hold.ensures.source

pub returns-in-Ok-Some-clause-steady : goal.returns-in-Ok-Some-clause-steady
returns-in-Ok-Some-clause-steady g c ready = ap g.S.EventSource.failed c.hold.ensures.source ∙ steady_poll {A = g.row.A.Denot} g.S.EventSource.drawn g.S.EventSource.failed (g.F.Filter.admits c.args.filter.now) (g.P.Patience.lasted c.args.patience.now (g.C.Clock.latest c.ask.new.clock)) c.args.self.now c.ask.new.reader (Some c.in-Ok-Some.taken) (rw c.in-Ok-Some.field-0-is at c.in-Ok-Some.ensures).asked

pub returns-in-Ok-Some-clause-limits : goal.returns-in-Ok-Some-clause-limits
returns-in-Ok-Some-clause-limits g c =
    subst (λ (y : g.row.S.Denot). g.P.Patience.limits c.args.patience.now (g.C.Clock.latest c.ask.new.clock) (g.S.EventSource.asked c.args.self.now.source) (g.S.EventSource.asked y)) (sym c.hold.ensures.source) c.in-Ok-Some.ensures.limits

pub returns-in-Ok-None-clause-step : goal.returns-in-Ok-None-clause-step
returns-in-Ok-None-clause-step g c = poll_tried g.S.EventSource.drawn g.S.EventSource.failed _ (g.P.Patience.lasted c.args.patience.now (g.C.Clock.latest c.ask.new.clock)) c.args.self.now c.ask.new.reader g.row.A.Denot (rw c.in-Ok-None.field-0-is at c.in-Ok-None.ensures).asked

pub returns-then-is_woken-clause-step : goal.returns-then-is_woken-clause-step
returns-then-is_woken-clause-step g c = poll_woken g.S.EventSource.drawn g.S.EventSource.failed _ (g.P.Patience.lasted c.args.patience.now (g.C.Clock.latest c.ask.new.clock)) c.args.self.now c.ask.new.reader g.row.A.Denot c.in-Err.error c.if-is_woken.ensures.yes c.in-Err.ensures.asked

pub returns-else-is_woken-clause-step : goal.returns-else-is_woken-clause-step
returns-else-is_woken-clause-step g c = poll_fault g.S.EventSource.drawn g.S.EventSource.failed _ (g.P.Patience.lasted c.args.patience.now (g.C.Clock.latest c.ask.new.clock)) c.args.self.now c.ask.new.reader g.row.A.Denot c.in-Err.error c.if-is_woken.ensures.no c.in-Err.ensures.asked
