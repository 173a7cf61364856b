use Rattle.std.proofs.Common.{◌≡◌, ◌-◌, Err, None, Ok, Option, Some, subst, sym}
use Rattle.std.specs.Duration.{as_nanos}
use Rattle.std.specs.IoError.{error_kind}
use Rattle.std.specs.declared.time.Duration.{Duration}
use Rattle.crossterm_read.specs.Replies.{Fault, ToTake}
use Rattle.crossterm_read.specs.Steps.{ReadStep, Within}
use Rattle.crossterm_read.specs.Store.{ReaderState}
use Rattle.crossterm_read.specs.Waiting.{AsksForever}
use Rattle.crossterm_read.specs.declared.read.reader.AtWake.TheVariants.{GoesOn}
use Rattle.crossterm_read.specs.inside.Asking.{Asked}
use Rattle.crossterm_read.specs.inside.Replies.{kept}
use Rattle.crossterm_read.proofs.Asking.{asks_none, next_asked, next_held, taken_none}
use Rattle.crossterm_read.proofs.Querying.{given_admitted, taken_admitted}
use Rattle.crossterm_read.proofs.Waiting.{limits_none, never_nothing}
use Rattle.crossterm_read.proofs.read.reader.InternalEventReader.read_numbered.Goals as goal

pub returns-in-Some-clause-step : goal.returns-in-Some-clause-step
returns-in-Some-clause-step g c =
    let h = next_held g.S.EventSource.drawn g.S.EventSource.failed (g.F.Filter.admits c.args.filter.now) (Within None 0) c.args.self.now c.take_numbered.new.self GoesOn g.met.S.EventSource.none_drawn c.in-Some.taken c.in-Some.ensures.step c.take_numbered.ensures.source in
    (0, h.0, h.1, h.2, h.3, h.4)

pub returns-in-Some-clause-asked : goal.returns-in-Some-clause-asked
returns-in-Some-clause-asked g c =
    subst (λ (y : g.row.S.Denot). AsksForever (g.S.EventSource.asked c.args.self.now.source) (g.S.EventSource.asked y)) (sym c.take_numbered.ensures.source) (asks_none (λ limit. limit ≡ None) _)

pub returns-in-Some-clause-admitted : goal.returns-in-Some-clause-admitted
returns-in-Some-clause-admitted g c = taken_admitted (g.F.Filter.admits c.args.filter.now) c.args.self.now.store c.take_numbered.new.self.store _ c.in-Some.ensures.step

pub unreachable-requires : goal.unreachable-requires
unreachable-requires g c =
    let f = g.F.Filter.admits c.args.filter.now in
    let limit = c.new-timeout.result.limit in
    let past = 0 - as_nanos c.new-timeout.result.start in
    let same = taken_none f c.args.self.now c.take_numbered.new.self c.in_default.ensures.step c.take_numbered.ensures.room c.take_numbered.ensures.source in
    let asked = subst (λ (s : ReaderState g.row.S.Denot). Asked {A = g.row.A.Denot} g.S.EventSource.drawn g.S.EventSource.failed GoesOn f (Within limit past) s c.ask.new.reader (Ok None)) same (rw c.in-Ok-None.field-0-is at c.in-Ok-None.ensures).asked in
    let e = next_asked g.S.EventSource.drawn g.S.EventSource.failed f (Within limit past) c.args.self.now c.ask.new.reader {A = g.row.A.Denot} GoesOn (Ok None) asked in
    never_nothing f limit c.new-timeout.ensures.limit past e.0 c.args.self.now.store c.ask.new.reader.store e.2

pub returns-in-Ok-Some-clause-step : goal.returns-in-Ok-Some-clause-step
returns-in-Ok-Some-clause-step g c =
    let f = g.F.Filter.admits c.args.filter.now in
    let limit = c.new-timeout.result.limit in
    let past = 0 - as_nanos c.new-timeout.result.start in
    let taken = c.in-Ok-Some.taken in
    let same = taken_none f c.args.self.now c.take_numbered.new.self c.in_default.ensures.step c.take_numbered.ensures.room c.take_numbered.ensures.source in
    let asked = subst (λ (s : ReaderState g.row.S.Denot). Asked {A = g.row.A.Denot} g.S.EventSource.drawn g.S.EventSource.failed GoesOn f (Within limit past) s c.ask.new.reader (Ok (Some taken))) same (rw c.in-Ok-Some.field-0-is at c.in-Ok-Some.ensures).asked in
    let e = next_asked g.S.EventSource.drawn g.S.EventSource.failed f (Within limit past) c.args.self.now c.ask.new.reader {A = g.row.A.Denot} GoesOn (Ok (Some taken)) asked in
    (past, e.0, e.1, subst (λ (l : Option Duration). ReadStep (Within l past) f e.0 c.args.self.now.store c.ask.new.reader.store (ToTake (Some (kept taken)))) c.new-timeout.ensures.limit e.2, tt, e.4)

pub returns-in-Ok-Some-clause-admitted : goal.returns-in-Ok-Some-clause-admitted
returns-in-Ok-Some-clause-admitted g c = given_admitted (g.F.Filter.admits c.args.filter.now) c.ask.new.reader.store (Ok (Some c.in-Ok-Some.taken)) (rw c.in-Ok-Some.field-0-is at c.in-Ok-Some.ensures).asked.6

pub returns-in-Err-clause-step : goal.returns-in-Err-clause-step
returns-in-Err-clause-step g c =
    let f = g.F.Filter.admits c.args.filter.now in
    let limit = c.new-timeout.result.limit in
    let past = 0 - as_nanos c.new-timeout.result.start in
    let error = c.in-Err.error in
    let same = taken_none f c.args.self.now c.take_numbered.new.self c.in_default.ensures.step c.take_numbered.ensures.room c.take_numbered.ensures.source in
    let asked = subst (λ (s : ReaderState g.row.S.Denot). Asked {A = g.row.A.Denot} g.S.EventSource.drawn g.S.EventSource.failed GoesOn f (Within limit past) s c.ask.new.reader (Err error)) same c.in-Err.ensures.asked in
    let e = next_asked g.S.EventSource.drawn g.S.EventSource.failed f (Within limit past) c.args.self.now c.ask.new.reader {A = g.row.A.Denot} GoesOn (Err error) asked in
    (past, e.0, e.1, subst (λ (l : Option Duration). ReadStep (Within l past) f e.0 c.args.self.now.store c.ask.new.reader.store (Fault (error_kind error))) c.new-timeout.ensures.limit e.2, e.3, e.4)

pub returns-in-Ok-Some-clause-asked : goal.returns-in-Ok-Some-clause-asked
returns-in-Ok-Some-clause-asked g c =
    subst (λ (y : g.row.S.Denot). AsksForever (g.S.EventSource.asked y) (g.S.EventSource.asked c.ask.new.reader.source)) c.take_numbered.ensures.source (limits_none c.new-timeout.result c.new-timeout.ensures.limit _ _ _ c.ask.ensures.limits)

pub returns-in-Err-clause-asked : goal.returns-in-Err-clause-asked
returns-in-Err-clause-asked g c =
    subst (λ (y : g.row.S.Denot). AsksForever (g.S.EventSource.asked y) (g.S.EventSource.asked c.ask.new.reader.source)) c.take_numbered.ensures.source (limits_none c.new-timeout.result c.new-timeout.ensures.limit _ _ _ c.ask.ensures.limits)
