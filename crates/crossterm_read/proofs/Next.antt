-- What a call is that takes what comes: a read, or a poll that found nothing.
use Rattle.std.proofs.Common.{◌≡◌, ◌≢◌, ℕ, Bool, true, false, List, [], ◌∷◌, Option, None, Some, Result, Ok, Err, inl, inr, refl, sym, ap, subst, ◌∙◌}
use Rattle.std.specs.List.{AllByRecursion}
use Rattle.std.specs.Option.{option_map}
use Rattle.std.specs.declared.io.Error.{Error}
use Rattle.std.specs.declared.io.ErrorKind.{ErrorKind}
use Rattle.std.specs.declared.io.ErrorKind.TheVariants.{Interrupted}
use Rattle.std.specs.declared.time.Duration.{Duration}
use Rattle.std.specs.IoError.{error_kind}
use Rattle.std.specs.Prelude.{IfErr}
use Rattle.crossterm_types.specs.Admitting.{admitted}
use Rattle.crossterm_types.specs.Seen.{Seen, seen}
use Rattle.crossterm_types.specs.declared.event.Event.{Event}
use Rattle.crossterm_types.specs.declared.event.InternalEvent.{InternalEvent}
use Rattle.crossterm_types.specs.declared.event.filter.AnyFilter.{AnyFilter}
use Rattle.crossterm_read.specs.Answers.{SourceAnswer, Gave, Nothing, Failed}
use Rattle.crossterm_read.specs.Calls.{Read, Step}
use Rattle.crossterm_read.specs.Entries.{InTime, IsCall, IsPoll, ReadsFor}
use Rattle.crossterm_read.specs.History.{Extends, Known, last_taken}
use Rattle.crossterm_read.specs.Replies.{Came, Faulted, Fault, ToPoll, ToTake, event_seen, event_tried, shown}
use Rattle.crossterm_read.specs.Store.{EventStore, Arrives}
use Rattle.crossterm_read.specs.Steps.{Patience, Asks, NextStep, Passes, PollStep, ReadReplies, ReadStep, TakeReplies}
use Rattle.crossterm_read.specs.Waiting.{AsksWithin}
use Rattle.crossterm_read.specs.declared.read.held.Taken.{Taken}
use Rattle.crossterm_read.specs.declared.read.reader.AtWake.TheVariants.{Stops, GoesOn}
use Rattle.crossterm_read.specs.inside.Replies.{IsReadOrPoll, kept, last_tried, reply_within, request_within, try_reply}
use Rattle.crossterm_read.proofs.Ready.{ready_there}

pub fault_of : (k l : ErrorKind) → Fault k ≡ Fault l → k ≡ l
fault_of k l e = cc

pub took_of : (x y : Option (Seen × ℕ)) → ToTake x ≡ ToTake y → x ≡ y
took_of x y e = cc

pub take_not : (x : Option (Seen × ℕ)) (kind : ErrorKind) → ToTake x ≡ Fault kind → ⊥
take_not x kind e = cc

some_not : (x : Seen × ℕ) → ToTake (Some x) ≡ ToTake None → ⊥
some_not x e = cc

abbrev broke : ErrorKind → Result Bool ErrorKind
broke kind = Err kind

-- If a call goes on that stops at a wake-up, one goes on that doesn't.
goes_on : (f : Seen → Bool) (zs : List SourceAnswer) → AllByRecursion (Passes Stops f) zs → AllByRecursion (Passes GoesOn f) zs
goes_on f [] h = tt
goes_on f (Gave x ∷ zs) h = (h.0, goes_on f zs h.1)
goes_on f (Nothing ∷ zs) h = (tt, goes_on f zs h.1)
goes_on f (Failed kind ∷ zs) h = absurd (stops_not h.0.0)
  where
    stops_not : Stops ≡ GoesOn → ⊥
    stops_not e = cc

module _ (f : Seen → Bool) (patience : Patience) (zs : List SourceAnswer) (s t : EventStore) where
  -- What it takes a poll would have found.
  pub next_took : (x : Seen × ℕ) → NextStep Stops patience f zs s t (ToTake (Some x)) → (m : EventStore) × PollStep patience f zs s m (Ok true) × TakeReplies f m t (Some x)
  next_took x n = by_end n.0 n.2 n.4
    where
      by_end : (end : Result Bool ErrorKind) → Asks Stops f patience s.held zs end → ReadReplies f end n.1 t (ToTake (Some x)) → (m : EventStore) × PollStep patience f zs s m (Ok true) × TakeReplies f m t (Some x)
      by_end (Ok true) a r = (n.1, (Ok true, a, n.3, refl), subst (TakeReplies f n.1 t) (sym (took_of (Some x) r.0 r.2)) r.1)
      by_end (Ok false) a r = absurd (some_not x r.1)
      by_end (Err kind) a r = absurd (take_not (Some x) kind r.1)

  -- A read would have taken it as well.
  pub next_read : (x : Seen × ℕ) → NextStep Stops patience f zs s t (ToTake (Some x)) → ReadStep patience f zs s t (ToTake (Some x))
  next_read x n = by_end n.0 n.2 n.4
    where
      by_end : (end : Result Bool ErrorKind) → Asks Stops f patience s.held zs end → ReadReplies f end n.1 t (ToTake (Some x)) → ReadStep patience f zs s t (ToTake (Some x))
      by_end (Ok true) (inl a) r = (Ok true, n.1, inl a, n.3, r)
      by_end (Ok true) (inr a) r = (Ok true, n.1, inr (a.0, record { before = a.1.before; event = a.1.event; all = a.1.all; passed = goes_on f a.1.before a.1.passed; admitted = a.1.admitted }, a.2), n.3, r)
      by_end (Ok false) a r = absurd (some_not x r.1)
      by_end (Err kind) a r = absurd (take_not (Some x) kind r.1)

  -- If it gives nothing, a poll would have found none.
  pub next_none : NextStep Stops patience f zs s t (ToTake None) → PollStep patience f zs s t (Ok false)
  next_none n = by_end n.0 n.2 n.4
    where
      by_end : (end : Result Bool ErrorKind) → Asks Stops f patience s.held zs end → ReadReplies f end n.1 t (ToTake None) → PollStep patience f zs s t (Ok false)
      by_end (Ok true) a r = absurd (ready_there Stops f patience s n.1 zs a n.3 (subst (TakeReplies f n.1 t) (sym (took_of None r.0 r.2)) r.1).0)
      by_end (Ok false) a r = (Ok false, a, subst (Arrives s zs) (sym r.0) n.3, refl)
      by_end (Err kind) a r = absurd (take_not None kind r.1)

  -- Nor at a wake-up.
  pub next_woken : (kind : ErrorKind) → kind ≡ Interrupted → NextStep Stops patience f zs s t (Fault kind) → PollStep patience f zs s t (Ok false)
  next_woken kind h n = by_end n.0 n.2 n.4
    where
      by_end : (end : Result Bool ErrorKind) → Asks Stops f patience s.held zs end → ReadReplies f end n.1 t (Fault kind) → PollStep patience f zs s t (Ok false)
      by_end (Ok true) a r = absurd (take_not r.0 kind (sym r.2))
      by_end (Ok false) a r = absurd (take_not None kind (sym r.1))
      by_end (Err k) a r = (Err k, a, subst (Arrives s zs) (sym r.0) n.3, inl (sym (fault_of kind k r.1) ∙ h, refl))

  -- Every other fault is a poll's.
  pub next_fault : (kind : ErrorKind) → kind ≢ Interrupted → NextStep Stops patience f zs s t (Fault kind) → PollStep patience f zs s t (Err kind)
  next_fault kind h n = by_end n.0 n.2 n.4
    where
      by_end : (end : Result Bool ErrorKind) → Asks Stops f patience s.held zs end → ReadReplies f end n.1 t (Fault kind) → PollStep patience f zs s t (Err kind)
      by_end (Ok true) a r = absurd (take_not r.0 kind (sym r.2))
      by_end (Ok false) a r = absurd (take_not None kind (sym r.1))
      by_end (Err k) a r = (Err k, a, subst (Arrives s zs) (sym r.0) n.3, inr (λ e. h (fault_of kind k r.1 ∙ e), ap broke (fault_of kind k r.1)))

-- A read within a limit, as an entry of the history.
pub step_within : {A : Type 0} (f : AnyFilter) (patience : Patience) (zs : List SourceAnswer) (s t : EventStore) (given : Option (Taken (InternalEvent A))) → NextStep Stops patience (admitted f) zs s t (ToTake (option_map kept given))
    → Step (request_within patience f (Ok given)) zs s t (reply_within (Ok given))
step_within f patience zs s t (Some x) n = next_read (admitted f) patience zs s t (kept x) n
step_within f patience zs s t None n = (Ok false, next_none (admitted f) patience zs s t n, refl)

pub last_within : {A : Type 0} (n : Option ℕ) (r : Result (Option (Taken (InternalEvent A))) Error) → last_taken n (reply_within r) ≡ last_tried n r
last_within n (Ok (Some x)) = refl
last_within n (Ok None) = refl
last_within n (Err e) = refl

pub memory_within : {A : Type 0} (r : Result (Option (Taken (InternalEvent A))) Error) (P : ErrorKind → Type 0) → IfErr r (λ e. P (error_kind e)) → (kind : ErrorKind) → reply_within r ≡ Fault kind → P kind
memory_within (Ok (Some x)) P h kind e = absurd (take_not (Some (kept x)) kind e)
memory_within (Ok None) P h kind e = absurd (poll_not e)
  where
    poll_not : ToPoll false ≡ Fault kind → ⊥
    poll_not e = absurd (cc)
memory_within (Err x) P h kind e = subst P (fault_of (error_kind x) kind e) h

-- What its caller sees of it.
pub reads_for : {S A : Type 0} (drawn : S → List SourceAnswer → S → Type 0) (asked : S → List (Option Duration)) (f : AnyFilter) (limit : Option Duration) (begins : ℕ → Type 0) (start after : ℕ) (v w : Known S) → begins start
    → (tried : Result (Option (Taken (InternalEvent A))) Error) (r : Result (Option (Event A)) Error) → event_tried r ≡ shown (try_reply tried) → Extends drawn (IsReadOrPoll asked f limit start after tried) v w
    → ReadsFor drawn asked f limit begins after v w r
reads_for drawn asked f limit begins start after v w b (Ok (Some x)) (Ok (Some event)) e h = (
  start,
  b,
  x.number,
  subst (λ (y : Seen). Extends drawn (IsCall asked (InTime (λ patience. Read patience f) limit start after) (AsksWithin limit start after) (ToTake (Some (y, x.number)))) v w) (seen_of _ _ (sym e)) h,
)
  where
    seen_of : (a b : Seen) → Came (Some a) ≡ Came (Some b) → a ≡ b
    seen_of a b e = cc
reads_for drawn asked f limit begins start after v w b (Ok None) (Ok None) e h = (start, b, inl h)
reads_for drawn asked f limit begins start after v w b (Err x) (Err y) e h = (start, b, inl (subst (λ (kind : ErrorKind). Extends drawn (IsPoll asked f limit start after (Fault kind)) v w) (kind_of _ _ (sym e)) h))
  where
    kind_of : (k l : ErrorKind) → Faulted k ≡ Faulted l → k ≡ l
    kind_of k l e = cc
reads_for drawn asked f limit begins start after v w b (Ok (Some x)) (Ok None) e h = absurd (other e)
  where
    other : Came None ≡ Came (Some (seen x.event)) → ⊥
    other e = absurd (cc)
reads_for drawn asked f limit begins start after v w b (Ok None) (Ok (Some event)) e h = absurd (other (event_seen event) e)
  where
    other : (y : Seen) → Came (Some y) ≡ Came None → ⊥
    other y e = absurd (cc)
reads_for drawn asked f limit begins start after v w b (Ok given) (Err y) e h = absurd (other (error_kind y) (option_map (λ x. x.0) (option_map kept given)) e)
  where
    other : (kind : ErrorKind) (y : Option Seen) → Faulted kind ≡ Came y → ⊥
    other kind y e = absurd (cc)
reads_for drawn asked f limit begins start after v w b (Err x) (Ok given) e h = absurd (other (error_kind x) (option_map event_seen given) e)
  where
    other : (kind : ErrorKind) (y : Option Seen) → Came y ≡ Faulted kind → ⊥
    other kind y e = absurd (cc)
