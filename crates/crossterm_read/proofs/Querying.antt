-- What a query takes.
use Rattle.std.proofs.Common.{◌≡◌, ℕ, Bool, true, false, List, Option, None, Some, Result, Ok, Err, refl, sym, subst}
use Rattle.std.specs.Prelude.{IfOk, IfSome}
use Rattle.std.specs.declared.io.Error.{Error}
use Rattle.std.specs.declared.io.ErrorKind.{ErrorKind}
use Rattle.std.specs.declared.io.ErrorKind.TheVariants.{OutOfMemory, Other}
use Rattle.std.proofs.lemmas.List.Quantifiers.{position-Some}
use Rattle.crossterm_types.specs.Admitting.{is_attributes}
use Rattle.crossterm_types.specs.Seen.{Seen, seen}
use Rattle.crossterm_types.specs.declared.event.InternalEvent.{InternalEvent}
use Rattle.crossterm_read.specs.Answers.{SourceAnswer}
use Rattle.crossterm_read.specs.History.{last_taken}
use Rattle.crossterm_read.specs.Queries.{AfterReply, LeftReplies, QueryReplies, QueryStep}
use Rattle.crossterm_read.specs.Replies.{ToTake, ToQuery, Fault}
use Rattle.crossterm_read.specs.declared.read.held.Taken.{Taken}
use Rattle.crossterm_read.specs.Store.{EventStore}
use Rattle.crossterm_read.specs.inside.Replies.{kept}
use Rattle.crossterm_read.specs.Steps.{Patience, TakeReplies}
use Rattle.crossterm_read.specs.inside.Asking.{WouldGiveFirst, held_with}
use Rattle.crossterm_read.proofs.Next.{take_not}

-- The attributes that a query takes after the flags.
pub attributes_taken : (again : Patience) (zs : List SourceAnswer) (s t : EventStore) (x y : Seen × ℕ) → QueryStep is_attributes again zs s t (ToTake (Some y)) → AfterReply again zs false x s t (ToQuery x (Some y))
attributes_taken again zs s t x y q = (q.0, q.1, q.2, by_poll q.1 q.3)
  where
    some_of : (y z : Seen × ℕ) → ToTake (Some y) ≡ ToTake (Some z) → y ≡ z
    some_of y z e = cc

    by_poll : (p : Result Bool ErrorKind) → QueryReplies is_attributes p q.0 t (ToTake (Some y)) → LeftReplies p x q.0 t (ToQuery x (Some y))
    by_poll (Ok true) h = (y, subst (λ (z : Seen × ℕ). TakeReplies is_attributes q.0 t (Some z)) (sym (some_of y h.0 h.2)) h.1, refl)
    by_poll (Ok false) h = absurd (take_not (Some y) Other h.1)
    by_poll (Err kind) h = absurd (take_not (Some y) kind h.1)

-- If it takes none, the flags are the answer all the same.
pub attributes_none : (again : Patience) (zs : List SourceAnswer) (s t : EventStore) (x : Seen × ℕ) (kind : ErrorKind) → QueryStep is_attributes again zs s t (Fault kind) → AfterReply again zs false x s t (ToQuery x None)
attributes_none again zs s t x kind q = (q.0, q.1, q.2, by_poll q.1 q.3)
  where
    by_poll : (p : Result Bool ErrorKind) → QueryReplies is_attributes p q.0 t (Fault kind) → LeftReplies p x q.0 t (ToQuery x None)
    by_poll (Ok true) h = absurd (take_not (Some h.0) kind (sym h.2))
    by_poll (Ok false) h = (h.0, refl)
    by_poll (Err k) h = (h.0, refl)

-- What was taken is admitted.
pub taken_admitted : (f : Seen → Bool) (s t : EventStore) (x : Seen × ℕ) → TakeReplies f s t (Some x) → f x.0 ≡ true
taken_admitted f s t x h = let p = position-Some (λ e. f e.0) s.held h.0 x h.1 in subst (λ (e : Seen × ℕ). f e.0 ≡ true) h.2 p.1

-- What asking gave is admitted.
pub given_admitted : {A : Type 0} (f : Seen → Bool) (t : EventStore) (r : Result (Option (Taken (InternalEvent A))) Error) → WouldGiveFirst f t r → IfOk r (λ given. IfSome given (λ x. f (seen x.event) ≡ true))
given_admitted f t (Ok (Some x)) h = taken_admitted f (held_with t (kept x)) t (kept x) h
given_admitted f t (Ok None) h = tt
given_admitted f t (Err e) h = tt

pub other_not : (P : Type 0) → Other ≡ OutOfMemory → P
other_not P e = absurd (memory e)
  where
    memory : Other ≡ OutOfMemory → ⊥
    memory e = cc

-- What a query took last, whatever was taken before.
pub last_query : (n : Option ℕ) (e : Seen) (before : ℕ) (y : Option (Seen × ℕ)) (last : ℕ) → ((x : Seen) → last_taken None (ToQuery (x, before) y) ≡ Some last) → last_taken n (ToQuery (e, before) y) ≡ Some last
last_query n e before None last h = h e
last_query n e before (Some y) last h = h e
