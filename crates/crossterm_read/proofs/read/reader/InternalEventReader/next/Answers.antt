use Rattle.std.proofs.Common.{subst, sym}
use Rattle.crossterm_read.specs.Store.{ReaderState}
use Rattle.crossterm_read.specs.inside.Asking.{Asked}
use Rattle.crossterm_read.proofs.Asking.{next_asked, next_held, taken_none}
use Rattle.crossterm_read.proofs.Querying.{given_admitted, taken_admitted}
use Rattle.crossterm_read.proofs.read.reader.InternalEventReader.next.Goals as goal

pub returns-in-Some-clause-step : goal.returns-in-Some-clause-step
returns-in-Some-clause-step g c =
    next_held g.S.EventSource.drawn g.S.EventSource.failed (g.F.Filter.admits c.args.filter.now) (g.P.Patience.lasted c.args.patience.now (g.C.Clock.latest c.args.clock.now)) c.args.self.now c.take_numbered.new.self c.args.at_wake g.met.S.EventSource.none_drawn c.in-Some.taken
    c.in-Some.ensures.step c.take_numbered.ensures.source

pub returns-clause-step : goal.returns-clause-step
returns-clause-step g c =
    let f = g.F.Filter.admits c.args.filter.now in
    let lasted = g.P.Patience.lasted c.args.patience.now (g.C.Clock.latest c.ask.new.clock) in
    let same = taken_none f c.args.self.now c.take_numbered.new.self c.in_default.ensures.step c.take_numbered.ensures.room c.take_numbered.ensures.source in
    let asked = subst (λ (s : ReaderState g.row.S.Denot). Asked g.S.EventSource.drawn g.S.EventSource.failed c.args.at_wake f lasted s c.ask.new.reader c.ask.result) same c.ask.ensures.asked in
    next_asked g.S.EventSource.drawn g.S.EventSource.failed f lasted c.args.self.now c.ask.new.reader c.args.at_wake c.ask.result asked

pub returns-in-Some-clause-admitted : goal.returns-in-Some-clause-admitted
returns-in-Some-clause-admitted g c = taken_admitted (g.F.Filter.admits c.args.filter.now) c.args.self.now.store c.take_numbered.new.self.store _ c.in-Some.ensures.step

pub returns-clause-admitted : goal.returns-clause-admitted
returns-clause-admitted g c = given_admitted (g.F.Filter.admits c.args.filter.now) c.ask.new.reader.store c.ask.result c.ask.ensures.asked.6

pub returns-in-Some-clause-limits : goal.returns-in-Some-clause-limits
returns-in-Some-clause-limits g c =
    subst (λ (y : g.row.S.Denot). g.P.Patience.limits c.args.patience.now (g.C.Clock.latest c.args.clock.now) (g.S.EventSource.asked c.args.self.now.source) (g.S.EventSource.asked y)) (sym c.take_numbered.ensures.source)
    (g.met.P.Patience.limits_none c.args.patience.now (g.C.Clock.latest c.args.clock.now) (g.S.EventSource.asked c.args.self.now.source))

pub returns-clause-limits : goal.returns-clause-limits
returns-clause-limits g c =
    subst (λ (y : g.row.S.Denot). g.P.Patience.limits c.args.patience.now (g.C.Clock.latest c.ask.new.clock) (g.S.EventSource.asked y) (g.S.EventSource.asked c.ask.new.reader.source)) c.take_numbered.ensures.source c.ask.ensures.limits
