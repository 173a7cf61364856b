use Rattle.std.proofs.Common.{Err, false, Ok, refl}
use Rattle.std.specs.IoError.{error_kind}
use Rattle.crossterm_types.specs.Admitting.{admitted}
use Rattle.crossterm_read.proofs.Next.{next_fault, next_woken, step_within}
use Rattle.crossterm_read.proofs.read.reader.InternalEventReader.read_while.Goals as goal

pub returns-in-Ok-clause-step : goal.returns-in-Ok-clause-step
returns-in-Ok-clause-step g c =
    let e = c.in-Ok.ensures.step in
    (e.0, e.1, step_within c.args.filter (g.P.Patience.lasted c.args.patience.now (g.C.Clock.latest c.next.new.clock)) e.0 c.args.self.now.store c.next.new.self.store c.in-Ok.taken e.2, tt)

pub returns-then-is_woken-clause-step : goal.returns-then-is_woken-clause-step
returns-then-is_woken-clause-step g c =
    let e = c.in-Err.ensures.step in
    (e.0, e.1, (Ok false, next_woken (admitted c.args.filter) (g.P.Patience.lasted c.args.patience.now (g.C.Clock.latest c.next.new.clock)) e.0 c.args.self.now.store c.next.new.self.store (error_kind c.in-Err.error) c.if-is_woken.ensures.yes e.2, refl), tt)

pub returns-else-is_woken-clause-step : goal.returns-else-is_woken-clause-step
returns-else-is_woken-clause-step g c =
    let e = c.in-Err.ensures.step in
    let kind = error_kind c.in-Err.error in
    (e.0, e.1, (Err kind, next_fault (admitted c.args.filter) (g.P.Patience.lasted c.args.patience.now (g.C.Clock.latest c.next.new.clock)) e.0 c.args.self.now.store c.next.new.self.store kind c.if-is_woken.ensures.no e.2, refl), e.3)
