use Rattle.std.proofs.Common.{◌-◌, ◌++◌, false, Option, Some, [], sym, ap, refl, subst, inl, inr, ◌∙◌, arith, append-nil}
use Rattle.std.specs.Duration.{as_nanos}
use Rattle.std.specs.Option.{option_map}
use Rattle.std.specs.IoError.{error_kind}
use Rattle.std.specs.declared.time.Duration.{Duration}
use Rattle.crossterm_types.specs.Seen.{Seen}
use Rattle.crossterm_types.specs.Admitting.{is_attributes}
use Rattle.crossterm_read.specs.inside.Replies.{kept}
use Rattle.crossterm_read.specs.Replies.{Came, ToTake, ToQuery, Fault}
use Rattle.crossterm_read.specs.Queries.{AfterReply}
use Rattle.crossterm_read.specs.Steps.{Within}
use Rattle.crossterm_read.proofs.Querying.{last_query}
use Rattle.crossterm_read.proofs.read.reader.InternalEventReader.keyboard_until.Goals as goal

pub attributes_after-left-requires : goal.attributes_after-left-requires
attributes_after-left-requires g c = let start = ap as_nanos c.new-timeout.ensures.start ∙ c.now.ensures.latest in omega arith

pub returns-in-Some-clause-step : goal.returns-in-Some-clause-step
returns-in-Some-clause-step g c =
    let start = ap as_nanos c.new-timeout.ensures.start ∙ c.now.ensures.latest in
    let second = as_nanos c.new-timeout.result.start in
    let e = c.in-Ok.ensures.step in
    let x = kept c.in-Ok.taken in
    let d = c.attributes_after-left.ensures.step x in
    let y = option_map kept c.attributes_after-left.result in
    let m = c.query_while.new.self.store in
    let t = c.attributes_after-left.new.self.store in
    let last = g.C.Clock.latest c.attributes_after-left.new.clock in
    let past = last - second in
    let again = Within (Some c.args.again) past in
    let left : AfterReply again d.0 false x m t (ToQuery x y) = subst (λ (limit : Option Duration). AfterReply (Within limit past) d.0 false x m t (ToQuery x y)) c.new-timeout.ensures.limit d.2 in
    let after : AfterReply again d.0 (is_attributes x.0) x m t (ToQuery x y) = subst (λ (z : Seen). AfterReply again d.0 (is_attributes z) x m t (ToQuery x y)) (sym c.in-Some.ensures) left in (
      g.C.Clock.latest c.query_while.new.clock,
      second,
      c.query_while.ensures.later,
      omega (arith, start, c.now.ensures.later),
      omega (arith, start, c.attributes_after-left.ensures.later),
      e.0 ++ d.0,
      ToQuery x y,
      g.met.S.EventSource.drawn_on _ _ _ e.0 d.0 e.1 d.1,
      (e.0, d.0, m, ToTake (Some x), refl, e.2, inl (x, refl, after)),
      ap (λ (z : Seen). Came (Some z)) (sym c.in-Some.ensures),
      tt,
      λ n. last_query n x.0 x.1 y _ c.number_of-number.ensures,
      g.S.EventSource.asked c.query_while.new.self.source,
      c.query_while.ensures.limits,
      inr (c.new-timeout.result, c.new-timeout.ensures.limit, refl, c.attributes_after-left.ensures.limits),
    )

pub returns-in-Some-clause-first : goal.returns-in-Some-clause-first
returns-in-Some-clause-first g c from start b = c.attributes_after-left.ensures.first _ _ (c.now.ensures.again _ _ (c.query_while.ensures.first _ _ b))

pub returns-in-Ok-clause-step : goal.returns-in-Ok-clause-step
returns-in-Ok-clause-step g c =
    let e = c.in-Ok.ensures.step in
    let x = kept c.in-Ok.taken in
    let m = c.query_while.new.self.store in
    let between = g.C.Clock.latest c.query_while.new.clock in
    let again = Within (Some c.args.again) (between - between) in
    let after : AfterReply again [] (is_attributes x.0) x m m (ToTake (Some x)) = subst (λ (z : Seen). AfterReply again [] (is_attributes z) x m m (ToTake (Some x))) (sym c.in-None.ensures) (refl, refl, refl) in (
      between,
      between,
      c.query_while.ensures.later,
      omega arith,
      omega arith,
      e.0,
      ToTake (Some x),
      e.1,
      (e.0, [], m, ToTake (Some x), sym (append-nil e.0), e.2, inl (x, refl, after)),
      ap (λ (z : Seen). Came (Some z)) (sym c.in-None.ensures),
      tt,
      λ n. refl,
      g.S.EventSource.asked c.query_while.new.self.source,
      c.query_while.ensures.limits,
      inl refl,
    )

pub returns-clause-step : goal.returns-clause-step
returns-clause-step g c =
    let e = c.in-Err.ensures.step in
    let fault = Fault (error_kind c.in-Err.error) in (
      g.C.Clock.latest c.query_while.new.clock,
      g.C.Clock.latest c.query_while.new.clock,
      c.query_while.ensures.later,
      omega arith,
      omega arith,
      e.0,
      fault,
      e.1,
      (e.0, [], c.query_while.new.self.store, fault, sym (append-nil e.0), e.2, inr (error_kind c.in-Err.error, refl, (refl, refl, refl))),
      refl,
      e.3,
      λ n. refl,
      g.S.EventSource.asked c.query_while.new.self.source,
      c.query_while.ensures.limits,
      inl refl,
    )
