use Rattle.std.proofs.Common.{Some, [], ◌++◌, sym, ap, refl, subst, inl, inr, append-nil}
use Rattle.std.specs.Option.{option_map}
use Rattle.std.specs.IoError.{error_kind}
use Rattle.crossterm_types.specs.Seen.{Seen}
use Rattle.crossterm_types.specs.Admitting.{is_attributes}
use Rattle.crossterm_read.specs.inside.Replies.{kept}
use Rattle.crossterm_read.specs.Replies.{Came, ToTake, ToQuery, Fault}
use Rattle.crossterm_read.specs.Queries.{AfterReply}
use Rattle.crossterm_read.specs.Steps.{UpTo}
use Rattle.crossterm_read.specs.Device.{IsAtOnce}
use Rattle.crossterm_read.proofs.Asking.{asks_both}
use Rattle.crossterm_read.proofs.read.reader.InternalEventReader.keyboard_within.Goals as goal

pub flags_of-requires : goal.flags_of-requires
flags_of-requires g c = c.in-Ok.ensures.admitted

pub returns-in-Some-clause-step : goal.returns-in-Some-clause-step
returns-in-Some-clause-step g c =
    let e = c.in-Ok.ensures.step in
    let x = kept c.in-Ok.taken in
    let d = c.attributes_after.ensures.step x in
    let r = ToQuery x (option_map kept c.attributes_after.result) in
    let after : AfterReply (UpTo c.args.tries) d.0 (is_attributes x.0) x c.query_while.new.self.store c.attributes_after.new.self.store r = subst
    (λ (y : Seen). AfterReply (UpTo c.args.tries) d.0 (is_attributes y) x c.query_while.new.self.store c.attributes_after.new.self.store r) (sym c.in-Some.ensures) d.2 in (
      e.0 ++ d.0,
      r,
      g.met.S.EventSource.drawn_on _ _ _ e.0 d.0 e.1 d.1,
      (e.0, d.0, c.query_while.new.self.store, ToTake (Some x), refl, e.2, inl (x, refl, after)),
      ap (λ (y : Seen). Came (Some y)) (sym c.in-Some.ensures),
      tt,
    )

pub returns-in-Ok-clause-step : goal.returns-in-Ok-clause-step
returns-in-Ok-clause-step g c =
    let e = c.in-Ok.ensures.step in
    let x = kept c.in-Ok.taken in
    let m = c.query_while.new.self.store in
    let after : AfterReply (UpTo c.args.tries) [] (is_attributes x.0) x m m (ToTake (Some x)) = subst
    (λ (y : Seen). AfterReply (UpTo c.args.tries) [] (is_attributes y) x m m (ToTake (Some x))) (sym c.in-None.ensures) (refl, refl, refl) in
    (e.0, ToTake (Some x), e.1, (e.0, [], m, ToTake (Some x), sym (append-nil e.0), e.2, inl (x, refl, after)), ap (λ (y : Seen). Came (Some y)) (sym c.in-None.ensures), tt)

pub returns-clause-step : goal.returns-clause-step
returns-clause-step g c =
    let e = c.in-Err.ensures.step in
    (e.0, Fault (error_kind c.in-Err.error), e.1, (e.0, [], c.query_while.new.self.store, Fault (error_kind c.in-Err.error), sym (append-nil e.0), e.2, inr (error_kind c.in-Err.error, refl, (refl, refl, refl))), refl, e.3)

pub returns-in-Some-clause-at_once : goal.returns-in-Some-clause-at_once
returns-in-Some-clause-at_once g c = asks_both IsAtOnce _ _ _ c.in-Ok.ensures.limits c.attributes_after.ensures.limits
