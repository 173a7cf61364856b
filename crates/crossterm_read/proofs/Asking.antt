-- Asking a source again and again.
use Rattle.std.proofs.Common.{◌≡◌, ◌≢◌, ◌≤◌, ℕ, suc, ◌+◌, Bool, true, false, List, [], ◌∷◌, ◌++◌, length, Option, None, Some, Result, Ok, Err, inl, inr, refl, sym, ap, subst, ◌∙◌, arith, append_assoc, append-nil, length-append}
use mathlib.Core.Bool.{true≢false}
use Rattle.std.specs.Prelude.{is_some, IfErr}
use Rattle.std.specs.declared.io.Error.{Error}
use Rattle.std.specs.IoError.{error_kind}
use Rattle.std.specs.List.{AllByRecursion}
use Rattle.std.specs.declared.io.ErrorKind.{ErrorKind}
use Rattle.std.specs.declared.time.Duration.{Duration}
use Rattle.std.specs.declared.io.ErrorKind.TheVariants.{OutOfMemory, Interrupted}
use Rattle.crossterm_types.specs.Seen.{Seen}
use Rattle.crossterm_types.specs.declared.event.InternalEvent.{InternalEvent}
use Rattle.crossterm_read.specs.Answers.{SourceAnswer, Gave, Nothing, Failed, IsNoFault, IsSteady, gave}
use Rattle.crossterm_read.specs.Device.{AsksWith, AsksEach}
use Rattle.crossterm_read.specs.declared.read.reader.AtWake.{AtWake}
use Rattle.crossterm_read.specs.declared.read.reader.AtWake.TheVariants.{Stops, GoesOn}
use Rattle.crossterm_read.specs.declared.read.reader.Once.{Once}
use Rattle.crossterm_read.specs.declared.read.reader.Once.TheVariants as once
use Rattle.crossterm_read.specs.declared.read.held.Taken.{Taken}
use Rattle.crossterm_read.specs.Store.{EventStore, ReaderState, arrived, numbered_after, next_number, Arrives, reader_capacity}
use Rattle.crossterm_read.specs.Steps.{Patience, Allows, IsSpent, first_admitted, Passes, Asks, NextStep, PollStep, RefusedOnlyWithoutRoom, TakeReplies}
use Rattle.crossterm_read.specs.inside.Asking.{Asked, DrawsOne, held_with}
use Rattle.crossterm_read.specs.inside.Replies.{kept, try_reply}
use Rattle.crossterm_read.specs.Replies.{poll_reply}
use Rattle.crossterm_types.proofs.Lists.{all_append, all_push}

pub arrived-append : (n : ℕ) (xs ys : List SourceAnswer) → arrived n (xs ++ ys) ≡ arrived n xs ++ arrived (numbered_after n xs) ys
arrived-append n [] ys = refl
arrived-append n (Gave x ∷ xs) ys = ap (λ l. (x, n) ∷ l) (arrived-append (next_number n) xs ys)
arrived-append n (Nothing ∷ xs) ys = arrived-append n xs ys
arrived-append n (Failed k ∷ xs) ys = arrived-append n xs ys

pub numbered_after-append : (n : ℕ) (xs ys : List SourceAnswer) → numbered_after n (xs ++ ys) ≡ numbered_after (numbered_after n xs) ys
numbered_after-append n [] ys = refl
numbered_after-append n (Gave x ∷ xs) ys = numbered_after-append (next_number n) xs ys
numbered_after-append n (Nothing ∷ xs) ys = numbered_after-append n xs ys
numbered_after-append n (Failed k ∷ xs) ys = numbered_after-append n xs ys

pub arrives_none : (s : EventStore) → Arrives s [] s
arrives_none s = record { held = sym (append-nil s.held); arrivals = refl }

pub arrives_more : (s m t : EventStore) (xs ys : List SourceAnswer) → Arrives s xs m → Arrives m ys t → Arrives s (xs ++ ys) t
arrives_more s m t xs ys a b = record {
  held = b.held ∙ ap (λ l. l ++ arrived m.arrivals ys) a.held ∙ append_assoc s.held (arrived s.arrivals xs) (arrived m.arrivals ys)
      ∙ ap (λ l. s.held ++ l) (ap (λ (k : ℕ). arrived s.arrivals xs ++ arrived k ys) a.arrivals ∙ sym (arrived-append s.arrivals xs ys));
  arrivals = b.arrivals ∙ ap (λ (k : ℕ). numbered_after k ys) a.arrivals ∙ sym (numbered_after-append s.arrivals xs ys);
}

pub asks_none : (P : Option Duration → Type 0) (l : List (Option Duration)) → AsksEach P l l
asks_none P l = ([], sym (append-nil l), tt)

pub asks_more : (P : Option Duration → Type 0) (l m k : List (Option Duration)) (limit : Option Duration) → AsksEach P l m → P limit → AsksWith limit m k → AsksEach P l k
asks_more P l m k limit a h (inl e) = (a.0, e ∙ a.1, a.2)
asks_more P l m k limit a h (inr e) = (
  a.0 ++ limit ∷ [],
  e ∙ ap (λ (x : List (Option Duration)). x ++ limit ∷ []) a.1 ∙ append_assoc l a.0 (limit ∷ []),
  all_push P a.0 limit a.2 h,
)

pub asks_both : (P : Option Duration → Type 0) (l m k : List (Option Duration)) → AsksEach P l m → AsksEach P m k → AsksEach P l k
asks_both P l m k a b = (a.0 ++ b.0, b.1 ∙ ap (λ (x : List (Option Duration)). x ++ b.0) a.1 ∙ append_assoc l a.0 b.0, all_append P a.0 b.0 a.2 b.2)

length-arrived : (n : ℕ) (zs : List SourceAnswer) → length (arrived n zs) ≡ length (gave zs)
length-arrived n [] = refl
length-arrived n (Gave x ∷ zs) = ap (λ (k : ℕ). suc k) (length-arrived (next_number n) zs)
length-arrived n (Nothing ∷ zs) = length-arrived n zs
length-arrived n (Failed k ∷ zs) = length-arrived n zs

-- If no room is left, as many events came as there was room for.
came_to_room : {S : Type 0} (s t : ReaderState S) (zs : List SourceAnswer) → Arrives s.store zs t.store → reader_capacity s ≤ reader_capacity t → t.room ≡ 0 → s.room ≤ length (gave zs)
came_to_room s t zs a h e =
    let held = ap length a.held ∙ length-append s.store.held (arrived s.store.arrivals zs) in
    let came = length-arrived s.store.arrivals zs in
    omega arith

pub none_of : (x : Option ℕ) → is_some x ≡ false → x ≡ None
none_of None h = refl
none_of (Some i) h = absurd (true≢false h)

-- What holds of all holds of those before the last one, and of it.
all_pushed : {Y : Type 0} (P : Y → Type 0) (ys : List Y) (y : Y) → AllByRecursion P (ys ++ y ∷ []) → AllByRecursion P ys × P y
all_pushed P [] y a = (tt, a.0)
all_pushed P (x ∷ ys) y a = let rest = all_pushed P ys y a.1 in ((a.0, rest.0), rest.1)

module _ {S : Type 0} (A : Type 0) (drawn : S → List SourceAnswer → S → Type 0) (failed : S → ℕ) (on : (s t u : S) (xs ys : List SourceAnswer) → drawn s xs t → drawn t ys u → drawn s (xs ++ ys) u) (wake : AtWake) (f : Seen → Bool) where
  -- so far no answer ended it
  pub record Asking (s t : ReaderState S) (i : ℕ) : Type 0 where
    pub answers : List SourceAnswer
    pub drawn_so : drawn s.source answers t.source
    pub arrives : Arrives s.store answers t.store
    pub passes : AllByRecursion (Passes wake f) answers
    pub count : length answers ≡ i
    pub none : first_admitted f s.store.held ≡ None
    pub steady : IsSteady failed s.source answers t.source

  -- One answer more; if it is no error, nothing has failed.
  pub steady_more : (s m t : ReaderState S) (i : ℕ) (z : SourceAnswer) (a : Asking s m i) → (IsNoFault z → failed t.source ≡ failed m.source) → IsSteady failed s.source (a.answers ++ z ∷ []) t.source
  steady_more s m t i z a h all = let each = all_pushed IsNoFault a.answers z all in h each.1 ∙ a.steady each.0

  pub asking_none : ((s : S) → drawn s [] s) → (s t : ReaderState S) → t ≡ s → first_admitted f s.store.held ≡ None → Asking s t 0
  asking_none law s t e n = subst (λ (y : ReaderState S). Asking s y 0) (sym e)
      (record { answers = []; drawn_so = law s.source; arrives = arrives_none s.store; passes = tt; count = refl; none = n; steady = λ h. refl })

  pub one_more : (s t : ReaderState S) (i : ℕ) (z : SourceAnswer) (a : Asking s t i) → length (a.answers ++ z ∷ []) ≡ i + 1
  one_more s t i z a = length-append a.answers (z ∷ []) ∙ ap (λ (k : ℕ). k + 1) a.count

  pub asking_nothing : (s m t : ReaderState S) (i : ℕ) → Asking s m i → DrawsOne {A = A} drawn failed wake f m t once.Nothing → Asking s t (i + 1)
  asking_nothing s m t i a d = record {
    answers = a.answers ++ d.0 ∷ [];
    drawn_so = on s.source m.source t.source a.answers (d.0 ∷ []) a.drawn_so d.1;
    arrives = arrives_more s.store m.store t.store a.answers (d.0 ∷ []) a.arrives d.2;
    passes = all_push (Passes wake f) a.answers d.0 a.passes d.3;
    count = one_more s m i d.0 a;
    none = a.none;
    steady = steady_more s m t i d.0 a d.4;
  }

  pub asked_tried : (s t : ReaderState S) (i : ℕ) (patience : Patience) → Asking s t i → IsSpent patience i → Asked {A = A} drawn failed wake f patience s t (Ok None)
  asked_tried s t i patience a h = (a.answers, a.drawn_so, a.arrives, (a.none, a.passes, subst (IsSpent patience) (sym a.count) h), tt, a.steady, tt)

  pub asked_refused : (s t : ReaderState S) (i : ℕ) (patience : Patience) (e : Error) → Asking s t i → Allows patience (i + 1) → error_kind e ≡ OutOfMemory → reader_capacity s ≤ reader_capacity t → t.room ≡ 0 → Asked {A = A} drawn failed wake f patience s t (Err e)
  asked_refused s t i patience e a h k r n = (
    a.answers,
    a.drawn_so,
    a.arrives,
    (a.none, inr (k, a.passes, subst (λ (j : ℕ). Allows patience (j + 1)) (sym a.count) h)),
    λ m. inr (came_to_room s t a.answers a.arrives r n),
    a.steady,
    tt,
  )

  pub asked_broke : (s m t : ReaderState S) (i : ℕ) (patience : Patience) (e : Error) → Asking s m i → Allows patience (i + 1) → DrawsOne {A = A} drawn failed wake f m t (once.Broke e) → Asked {A = A} drawn failed wake f patience s t (Err e)
  asked_broke s m t i patience e a h d = (
    a.answers ++ Failed (error_kind e) ∷ [],
    on s.source m.source t.source a.answers (Failed (error_kind e) ∷ []) a.drawn_so d.0,
    arrives_more s.store m.store t.store a.answers (Failed (error_kind e) ∷ []) a.arrives d.1,
    (a.none, inl (record { before = a.answers; all = refl; passed = a.passes; stops = d.2 }, subst (Allows patience) (sym (one_more s m i (Failed (error_kind e)) a)) h)),
    λ k. inl (a.answers, ap (λ (j : ErrorKind). a.answers ++ Failed j ∷ []) k),
    steady_more s m t i (Failed (error_kind e)) a (λ z. absurd z),
    tt,
  )

  pub draws_from : (i s t : ReaderState S) (o : Once A) → i ≡ s → DrawsOne drawn failed wake f i t o → DrawsOne drawn failed wake f s t o
  draws_from i s t o e d = subst (λ (y : ReaderState S). DrawsOne drawn failed wake f y t o) e d

-- An answer at which a call that stops at a wake-up goes on is no fault.
none_passed : (f : Seen → Bool) (zs : List SourceAnswer) → AllByRecursion (Passes Stops f) zs → AllByRecursion IsNoFault zs
none_passed f [] h = tt
none_passed f (Gave x ∷ zs) h = (tt, none_passed f zs h.1)
none_passed f (Nothing ∷ zs) h = (tt, none_passed f zs h.1)
none_passed f (Failed kind ∷ zs) h = absurd (stops_not h.0.0)
  where
    stops_not : Stops ≡ GoesOn → ⊥
    stops_not e = cc

-- So a poll that met no fault saw no failure.
pub steady_poll : {S A : Type 0} (drawn : S → List SourceAnswer → S → Type 0) (failed : S → ℕ) (f : Seen → Bool) (patience : Patience) (s t : ReaderState S) (given : Option (Taken (InternalEvent A))) → Asked drawn failed Stops f patience s t (Ok given) → failed t.source ≡ failed s.source
steady_poll drawn failed f patience s t (Some taken) a = by_end a.3
  where
    by_end : Asks Stops f patience s.store.held a.0 (Ok true) → failed t.source ≡ failed s.source
    by_end (inl h) = a.5 (subst (AllByRecursion IsNoFault) (sym h.1) tt)
    by_end (inr h) = a.5 (subst (AllByRecursion IsNoFault) (sym h.1.all) (all_push IsNoFault h.1.before (Gave h.1.event) (none_passed f h.1.before h.1.passed) tt))
steady_poll drawn failed f patience s t None a = a.5 (none_passed f a.0 a.3.1)

module _ {S : Type 0} (drawn : S → List SourceAnswer → S → Type 0) (failed : S → ℕ) (f : Seen → Bool) (patience : Patience) (s t : ReaderState S) where
  -- a poll that says this
  abbrev pub Polls : Result Bool Error → Type 0
  Polls r = (zs : List SourceAnswer) × drawn s.source zs t.source × PollStep patience f zs s.store t.store (poll_reply r) × IfErr r (λ e. RefusedOnlyWithoutRoom s.room zs (error_kind e))

  pub poll_came : {A : Type 0} (m : ReaderState S) (taken : Taken (InternalEvent A)) → Asked drawn failed Stops f patience s m (Ok (Some taken)) → t.store ≡ held_with m.store (kept taken) → t.source ≡ m.source → Polls (Ok true)
  poll_came m taken a h e = (a.0, subst (λ (y : S). drawn s.source a.0 y) (sym e) a.1, (Ok true, a.3, subst (λ (y : EventStore). Arrives s.store a.0 y) (sym h) a.2, refl), tt)

  pub poll_tried : (A : Type 0) → Asked {A = A} drawn failed Stops f patience s t (Ok None) → Polls (Ok false)
  poll_tried A a = (a.0, a.1, (Ok false, a.3, a.2, refl), tt)

  pub poll_woken : (A : Type 0) (e : Error) → error_kind e ≡ Interrupted → Asked {A = A} drawn failed Stops f patience s t (Err e) → Polls (Ok false)
  poll_woken A e h a = (a.0, a.1, (Err (error_kind e), a.3, a.2, inl (h, refl)), tt)

  pub poll_fault : (A : Type 0) (e : Error) → error_kind e ≢ Interrupted → Asked {A = A} drawn failed Stops f patience s t (Err e) → Polls (Err e)
  poll_fault A e h a = (a.0, a.1, (Err (error_kind e), a.3, a.2, inr (h, refl)), a.4)

  -- a call that gives this
  abbrev pub Gives : {A : Type 0} → AtWake → Result (Option (Taken (InternalEvent A))) Error → Type 0
  Gives wake r = (zs : List SourceAnswer) × drawn s.source zs t.source × NextStep wake patience f zs s.store t.store (try_reply r) × IfErr r (λ e. RefusedOnlyWithoutRoom s.room zs (error_kind e)) × IsSteady failed s.source zs t.source

  pub next_held : {A : Type 0} (wake : AtWake) → ((s : S) → drawn s [] s) → (taken : Taken (InternalEvent A)) → TakeReplies f s.store t.store (Some (kept taken)) → t.source ≡ s.source → Gives wake (Ok (Some taken))
  next_held wake law taken h e = ([], subst (λ (y : S). drawn s.source [] y) (sym e) (law s.source), (Ok true, s.store, inl (ap is_some h.1, refl), arrives_none s.store, (Some (kept taken), h, refl)), tt, λ none. ap failed e)

  pub next_asked : {A : Type 0} (wake : AtWake) (r : Result (Option (Taken (InternalEvent A))) Error) → Asked drawn failed wake f patience s t r → Gives wake r
  next_asked wake (Ok (Some taken)) a = (a.0, a.1, (Ok true, held_with t.store (kept taken), a.3, a.2, (Some (kept taken), a.6, refl)), tt, a.5)
  next_asked wake (Ok None) a = (a.0, a.1, (Ok false, t.store, a.3, a.2, (refl, refl)), tt, a.5)
  next_asked wake (Err e) a = (a.0, a.1, (Err (error_kind e), t.store, a.3, a.2, (refl, refl)), a.4, a.5)

-- A poll for an event that is held.
pub poll_held : {S : Type 0} (drawn : S → List SourceAnswer → S → Type 0) → ((s : S) → drawn s [] s) → (failed : S → ℕ) (f : Seen → Bool) (patience : Patience) (s : ReaderState S) → is_some (first_admitted f s.store.held) ≡ true
    → (zs : List SourceAnswer) × drawn s.source zs s.source × PollStep patience f zs s.store s.store (Ok true) × Unit {0}
poll_held drawn law failed f patience s h = ([], law s.source, (Ok true, inl (h, refl), arrives_none s.store, refl), tt)

-- A take that gives nothing leaves the reader as it was.
pub taken_none : {S : Type 0} (f : Seen → Bool) (s t : ReaderState S) → TakeReplies f s.store t.store None → reader_capacity t ≡ reader_capacity s → t.source ≡ s.source → t ≡ s
taken_none f s t h r e =
    let held = ap (λ (y : EventStore). length y.held) h.1 in
    let room : t.room ≡ s.room = omega arith in
    λ i. record { store = h.1 i; room = room i; source = e i }
