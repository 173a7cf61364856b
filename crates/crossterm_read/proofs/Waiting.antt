-- Asking within a limit of time.
use Rattle.std.proofs.Common.{◌≡◌, ◌≤◌, ◌-◌, ℕ, Bool, true, false, List, [], ◌∷◌, ◌++◌, Option, None, Some, Result, Ok, Err, refl, sym, ap, subst, inl, inr, ◌∙◌, arith, append_assoc}
use Rattle.std.specs.Duration.{as_nanos}
use Rattle.std.specs.List.{AllByRecursion}
use Rattle.std.specs.Option.{option_map}
use Rattle.std.specs.declared.io.ErrorKind.{ErrorKind}
use Rattle.std.specs.declared.time.Duration.{Duration}
use Rattle.crossterm_types.specs.Seen.{Seen}
use Rattle.crossterm_types.specs.Timing.{Reaches, HasElapsed, IsFirst, KeepsFirst, left_over}
use Rattle.crossterm_types.specs.declared.event.timeout.PollTimeout.{PollTimeout}
use Rattle.crossterm_read.specs.Answers.{SourceAnswer}
use Rattle.crossterm_read.specs.Device.{AsksEach, AsksWith, IsAtOnce}
use Rattle.crossterm_read.specs.declared.read.reader.AtWake.TheVariants.{GoesOn}
use Rattle.crossterm_read.specs.Replies.{ToTake}
use Rattle.crossterm_read.specs.Store.{EventStore}
use Rattle.crossterm_read.specs.Steps.{Within, Asks, NextStep, ReadReplies, TakeReplies}
use Rattle.crossterm_read.specs.inside.Asking.{AsksInTime}
use Rattle.crossterm_read.specs.Waiting.{AsksLeft, OnlyLastIsAtOnce, WasLeft}
use Rattle.crossterm_read.proofs.Asking.{asks_more}
use Rattle.crossterm_read.proofs.Next.{take_not, took_of}
use Rattle.crossterm_read.proofs.Ready.{ready_there}
use Rattle.crossterm_types.proofs.Lists.{all_map, all_push}

-- What was left of the limit, and something was.
abbrev pub WasSomeLeft : PollTimeout → ℕ → Option Duration → Type 0
WasSomeLeft timeout last left = WasLeft timeout last left × (IsAtOnce left → ⊥)

some_later : (timeout : PollTimeout) (a b : ℕ) → a ≤ b → (left : Option Duration) → WasSomeLeft timeout a left → WasSomeLeft timeout b left
some_later timeout a b e left w = let low = w.0.2 in ((w.0.0, w.0.1, omega arith, w.0.3), w.1)

last_at_once : (limits : List (Option Duration)) (limit : Option Duration) → AllByRecursion (λ l. IsAtOnce l → ⊥) limits → OnlyLastIsAtOnce (limits ++ limit ∷ [])
last_at_once [] limit a = (λ more. absurd (more refl), tt)
last_at_once (l ∷ ls) limit a = (λ more. a.0, last_at_once ls limit a.1)

none_at_once : (limits : List (Option Duration)) → AllByRecursion (λ l. IsAtOnce l → ⊥) limits → OnlyLastIsAtOnce limits
none_at_once [] a = tt
none_at_once (l ∷ ls) a = (λ more. a.0, none_at_once ls a.1)

-- One more is asked, with what is left at a later moment.
pub limits_more : (timeout : PollTimeout) (a now b : ℕ) (l m k : List (Option Duration)) → a ≤ b → as_nanos timeout.start ≤ now → now ≤ b → AsksEach (WasSomeLeft timeout a) l m → AsksInTime timeout now m k → AsksLeft timeout b l k
limits_more timeout a now b l m k e f g h i = by_question i.2
  where
    were : AllByRecursion (WasLeft timeout b) h.0
    were = all_map (WasSomeLeft timeout a) (WasLeft timeout b) h.0 (λ left w. (some_later timeout a b e left w).0) h.2

    lasted : AllByRecursion (λ l. IsAtOnce l → ⊥) h.0
    lasted = all_map (WasSomeLeft timeout a) (λ l. IsAtOnce l → ⊥) h.0 (λ left w. w.1) h.2

    by_question : AsksWith i.0 m k → AsksLeft timeout b l k
    by_question (inl n) = (h.0, n ∙ h.1, were, none_at_once h.0 lasted)
    by_question (inr n) = (
      h.0 ++ i.0 ∷ [],
      n ∙ ap (λ (x : List (Option Duration)). x ++ i.0 ∷ []) h.1 ∙ append_assoc l h.0 (i.0 ∷ []),
      all_push (WasLeft timeout b) h.0 i.0 were (now, f, g, i.1),
      last_at_once h.0 i.0 lasted,
    )

-- Something was left at a moment if the limit hasn't passed at a later one.
some_left : (timeout : PollTimeout) (now later : ℕ) (left : Option Duration) → now ≤ later → (HasElapsed timeout later → ⊥) → option_map as_nanos left ≡ left_over timeout now → IsAtOnce left → ⊥
some_left timeout now later None g n e z = absurd z
some_left timeout now later (Some d) g n e z = by_limit timeout.limit n e
  where
    some_of : (m n : ℕ) → Some m ≡ Some n → m ≡ n
    some_of m n e = cc

    some_not : (n : ℕ) → Some n ≡ None → ⊥
    some_not n e = absurd (cc)

    by_limit : (limit : Option Duration) → (Reaches limit (later - as_nanos timeout.start) → ⊥) → Some (as_nanos d) ≡ option_map (λ (l : Duration). as_nanos l - (now - as_nanos timeout.start)) limit → ⊥
    by_limit None n e = some_not _ e
    by_limit (Some l) n e = let same = some_of _ _ e in n (omega arith)

-- One more is asked, and the limit hasn't passed yet.
pub some_more : (timeout : PollTimeout) (a now b : ℕ) (l m k : List (Option Duration)) → a ≤ b → as_nanos timeout.start ≤ now → now ≤ b → (HasElapsed timeout b → ⊥) → AsksEach (WasSomeLeft timeout a) l m → AsksInTime timeout now m k
    → AsksEach (WasSomeLeft timeout b) l k
some_more timeout a now b l m k e f g lasting h i =
    let later : AsksEach (WasSomeLeft timeout b) l m = (h.0, h.1, all_map (WasSomeLeft timeout a) (WasSomeLeft timeout b) h.0 (some_later timeout a b e) h.2) in
    asks_more (WasSomeLeft timeout b) l m k i.0 later ((now, f, g, i.1), some_left timeout now b i.0 g lasting i.1) i.2

-- Without a limit nothing is left over.
none_left : (timeout : PollTimeout) → timeout.limit ≡ None → (last : ℕ) (left : Option Duration) → WasLeft timeout last left → left ≡ None
none_left timeout e last None w = refl
none_left timeout e last (Some d) w = absurd (some_not _ (w.3 ∙ ap (λ (o : Option Duration). option_map (λ (limit : Duration). as_nanos limit - (w.0 - as_nanos timeout.start)) o) e))
  where
    some_not : (n : ℕ) → Some n ≡ None → ⊥
    some_not n e = absurd (cc)

pub limits_none : (timeout : PollTimeout) → timeout.limit ≡ None → (last : ℕ) (l m : List (Option Duration)) → AsksLeft timeout last l m → AsksEach (λ limit. limit ≡ None) l m
limits_none timeout e last l m h = (h.0, h.1, all_map (WasLeft timeout last) (λ limit. limit ≡ None) h.0 (λ left w. none_left timeout e last left w) h.2)

pub reaches_later : (limit : Option Duration) (m n : ℕ) → m ≤ n → Reaches limit m → Reaches limit n
reaches_later None m n h r = absurd r
reaches_later (Some d) m n h r = omega arith

-- A limit that hasn't passed isn't zero.
pub lasts : (timeout : PollTimeout) (now : ℕ) → (HasElapsed timeout now → ⊥) → IsAtOnce timeout.limit → ⊥
lasts timeout now h z = by_limit timeout.limit h z
  where
    by_limit : (limit : Option Duration) → (Reaches limit (now - as_nanos timeout.start) → ⊥) → IsAtOnce limit → ⊥
    by_limit None h z = absurd z
    by_limit (Some d) h z = h (omega arith)

-- What a clock returns first stays the first until the call's end.
pub first_of : {C : Type 0} (latest : C → ℕ) (began : C → ℕ → C → Type 0) (old now new : C) (start : ℕ) → start ≡ latest now → latest old ≤ latest now → latest now ≤ latest new → began old (latest now) now → KeepsFirst began now new → IsFirst latest began old new start
first_of latest began old now new start e later more first keeps = subst (IsFirst latest began old new) (sym e) (later, more, keeps old (latest now) first)

-- Without a limit a call that goes on at a wake-up doesn't end with nothing.
pub never_nothing : (f : Seen → Bool) (limit : Option Duration) → limit ≡ None → (past : ℕ) (zs : List SourceAnswer) (s t : EventStore) → NextStep GoesOn (Within limit past) f zs s t (ToTake None) → ⊥
never_nothing f limit none past zs s t n = by_end n.0 n.2 n.4
  where
    by_end : (end : Result Bool ErrorKind) → Asks GoesOn f (Within limit past) s.held zs end → ReadReplies f end n.1 t (ToTake None) → ⊥
    by_end (Ok true) a r = ready_there GoesOn f (Within limit past) s n.1 zs a n.3 (subst (TakeReplies f n.1 t) (sym (took_of None r.0 r.2)) r.1).0
    by_end (Ok false) a r = absurd (subst (λ (o : Option Duration). Reaches o past) none a.2.passed)
    by_end (Err kind) a r = absurd (take_not None kind r.1)
