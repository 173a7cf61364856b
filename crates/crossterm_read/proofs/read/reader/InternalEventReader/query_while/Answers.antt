use Rattle.std.proofs.Common.{Err, false, Ok, true, refl, sym, subst, ◌∙◌}
use Rattle.std.specs.IoError.{error_kind}
use Rattle.std.specs.declared.io.ErrorKind.{ErrorKind}
use Rattle.std.specs.declared.io.ErrorKind.TheVariants.{Other}
use Rattle.crossterm_read.specs.Queries.{QueryStep}
use Rattle.crossterm_read.specs.Replies.{Fault}
use Rattle.crossterm_read.specs.inside.Replies.{kept}
use Rattle.crossterm_read.proofs.Next.{next_fault, next_none, next_took, next_woken}
use Rattle.crossterm_read.proofs.Querying.{other_not}
use Rattle.crossterm_read.proofs.read.reader.InternalEventReader.query_while.Goals as goal

pub returns-in-Ok-Some-clause-step : goal.returns-in-Ok-Some-clause-step
returns-in-Ok-Some-clause-step g c =
    let e = (rw c.in-Ok-Some.field-0-is at c.in-Ok-Some.ensures).step in
    let x = kept c.in-Ok-Some.taken in
    let took = next_took (g.F.Filter.admits c.args.filter.now) (g.P.Patience.lasted c.args.patience.now (g.C.Clock.latest c.next.new.clock)) e.0 c.args.self.now.store c.next.new.self.store x e.2 in
    (e.0, e.1, (took.0, Ok true, took.1, (x, took.2, refl)), tt)

pub returns-in-Ok-None-clause-step : goal.returns-in-Ok-None-clause-step
returns-in-Ok-None-clause-step g c =
    let f = g.F.Filter.admits c.args.filter.now in
    let s = c.args.self.now.store in
    let t = c.next.new.self.store in
    let e = (rw c.in-Ok-None.field-0-is at c.in-Ok-None.ensures).step in
    let query : QueryStep f (g.P.Patience.lasted c.args.patience.now (g.C.Clock.latest c.next.new.clock)) e.0 s t (Fault Other) = (t, Ok false, next_none f (g.P.Patience.lasted c.args.patience.now (g.C.Clock.latest c.next.new.clock)) e.0 s t e.2, (refl, refl)) in
    (e.0, e.1, subst (λ (kind : ErrorKind). QueryStep f (g.P.Patience.lasted c.args.patience.now (g.C.Clock.latest c.next.new.clock)) e.0 s t (Fault kind)) (sym c.from.ensures) query, λ memory. other_not _ (sym c.from.ensures ∙ memory))

pub returns-then-is_woken-clause-step : goal.returns-then-is_woken-clause-step
returns-then-is_woken-clause-step g c =
    let f = g.F.Filter.admits c.args.filter.now in
    let s = c.args.self.now.store in
    let t = c.next.new.self.store in
    let e = c.in-Err.ensures.step in
    let query : QueryStep f (g.P.Patience.lasted c.args.patience.now (g.C.Clock.latest c.next.new.clock)) e.0 s t (Fault Other) = (t, Ok false, next_woken f (g.P.Patience.lasted c.args.patience.now (g.C.Clock.latest c.next.new.clock)) e.0 s t (error_kind c.in-Err.error) c.if-is_woken.ensures.yes e.2, (refl, refl)) in
    (e.0, e.1, subst (λ (kind : ErrorKind). QueryStep f (g.P.Patience.lasted c.args.patience.now (g.C.Clock.latest c.next.new.clock)) e.0 s t (Fault kind)) (sym c.from-then-is_woken.ensures) query, λ memory. other_not _ (sym c.from-then-is_woken.ensures ∙ memory))

pub returns-else-is_woken-clause-step : goal.returns-else-is_woken-clause-step
returns-else-is_woken-clause-step g c =
    let e = c.in-Err.ensures.step in
    let kind = error_kind c.in-Err.error in
    let t = c.next.new.self.store in
    (e.0, e.1, (t, Err kind, next_fault (g.F.Filter.admits c.args.filter.now) (g.P.Patience.lasted c.args.patience.now (g.C.Clock.latest c.next.new.clock)) e.0 c.args.self.now.store t kind c.if-is_woken.ensures.no e.2, (refl, refl)), e.3)
