-- The newest of a reader's events, behind others of which none is admitted.
use Rattle.std.proofs.Common.{◌≡◌, ◌≤◌, ℕ, ◌+◌, ◌∙◌, Bool, true, false, not, cond, nat_lt, List, [], ◌∷◌, ◌++◌, length, None, Some, Ok, inl, inr, get_or, refl, sym, ap, subst, arith, append-nil}
use Rattle.std.specs.List.{AllByRecursion, prefix_len, remove}
use Rattle.std.proofs.lemmas.Bool.{cases_Bool}
use Rattle.std.proofs.lemmas.Bool.Decides.{nat_tests}
use Rattle.crossterm_types.specs.Seen.{Seen, seen}
use Rattle.crossterm_types.specs.declared.event.InternalEvent.{InternalEvent}
use Rattle.crossterm_read.specs.Answers.{SourceAnswer, Gave, Nothing, Failed}
use Rattle.crossterm_read.specs.Steps.{Patience, Allows, Passes, TakeReplies, first_admitted}
use Rattle.crossterm_read.specs.declared.read.held.Taken.{Taken}
use Rattle.crossterm_read.specs.Store.{Arrives, EventStore, ReaderState, arrived, next_number}
use Rattle.crossterm_read.specs.inside.Replies.{kept}
use Rattle.crossterm_read.specs.declared.read.reader.AtWake.{AtWake}
use Rattle.crossterm_read.specs.declared.read.reader.Once.TheVariants as once
use Rattle.crossterm_read.specs.inside.Asking.{Asked, DrawsOne, held_with}
use Rattle.crossterm_read.proofs.Asking.{Asking, arrives_more, one_more, steady_more}
use Rattle.crossterm_read.proofs.Joining.{get_here, remove_here}
use Rattle.crossterm_read.proofs.Storing.{position_nowhere, position_there}
use Rattle.crossterm_types.proofs.Lists.{all_append}

some_not : {n : ℕ} → Some n ≡ None → ⊥
some_not e = absurd (cc)

-- If the place of the first one is the end, none passes.
all_fail : (p : Seen × ℕ → Bool) (xs : List (Seen × ℕ)) → length xs ≤ prefix_len (λ h. not (p h)) xs → AllByRecursion (λ x. p x ≡ false) xs
all_fail p [] l = tt
all_fail p (x ∷ xs) l =
    let before = prefix_len (λ h. not (p h)) xs in
    elim (cases_Bool (p x)) [
      | inl passes ↦ let at : prefix_len (λ h. not (p h)) (x ∷ xs) ≡ 0 = ap (λ b. cond (not b) (1 + before) 0) passes in absurd (omega (arith, l, at))
      | inr fails ↦
          let at : prefix_len (λ h. not (p h)) (x ∷ xs) ≡ 1 + before = ap (λ b. cond (not b) (1 + before) 0) fails in
          (fails, all_fail p xs (omega (arith, l, at)))
    ]

none_passes : (f : Seen → Bool) (held : List (Seen × ℕ)) → first_admitted f held ≡ None → AllByRecursion (λ h. f h.0 ≡ false) held
none_passes f held none =
    let at = prefix_len (λ h. not (f h.0)) held in
    elim (cases_Bool (nat_lt at (length held))) [
      | inl less ↦ absurd (some_not (sym (ap (λ b. cond b (Some at) None) less) ∙ none))
      | inr not_less ↦ let l : length held ≤ at = grind (arith, nat_tests) in all_fail (λ h. f h.0) held l
    ]

-- If it is admitted, it is the first.
pub newest_first : (f : Seen → Bool) (held : List (Seen × ℕ)) (x : Seen × ℕ) → first_admitted f held ≡ None → f x.0 ≡ true → first_admitted f (held ++ x ∷ []) ≡ Some (length held)
newest_first f held x none is = position_there (λ h. f h.0) held [] x (none_passes f held none) is

-- The newest is taken.
pub takes_newest : (f : Seen → Bool) (held : List (Seen × ℕ)) (x : Seen × ℕ) (s t : EventStore) → s.held ≡ held ++ x ∷ [] → t.held ≡ held → t.arrivals ≡ s.arrivals
    → first_admitted f held ≡ None → f x.0 ≡ true → TakeReplies f s t (Some x)
takes_newest f held x s t h k n none is =
    let gone : t.held ≡ remove s.held (length held) = k ∙ sym (ap (λ l. remove l (length held)) h ∙ remove_here held [] x ∙ append-nil held) in (
      length held,
      ap (λ l. first_admitted f l) h ∙ newest_first f held x none is,
      ap (λ l. get_or l (length held) x) h ∙ get_here held [] x x,
      λ i. record { held = gone i; arrivals = n i },
    )

-- Events that were passed over aren't admitted.
passed_fail : (wake : AtWake) (f : Seen → Bool) (n : ℕ) (zs : List SourceAnswer) → AllByRecursion (Passes wake f) zs → AllByRecursion (λ h. f h.0 ≡ false) (arrived n zs)
passed_fail wake f n [] h = tt
passed_fail wake f n (Gave x ∷ zs) h = (h.0, passed_fail wake f (next_number n) zs h.1)
passed_fail wake f n (Nothing ∷ zs) h = passed_fail wake f n zs h.1
passed_fail wake f n (Failed kind ∷ zs) h = passed_fail wake f n zs h.1

-- So none is after them.
still_none : (wake : AtWake) (f : Seen → Bool) (s t : EventStore) (zs : List SourceAnswer) → first_admitted f s.held ≡ None → Arrives s zs t → AllByRecursion (Passes wake f) zs → first_admitted f t.held ≡ None
still_none wake f s t zs none a p =
    ap (first_admitted f) a.held
    ∙ position_nowhere (λ h. f h.0) (s.held ++ arrived s.arrivals zs) (all_append (λ h. f h.0 ≡ false) s.held (arrived s.arrivals zs) (none_passes f s.held none) (passed_fail wake f s.arrivals zs p))

module _ {S : Type 0} (A : Type 0) (drawn : S → List SourceAnswer → S → Type 0) (failed : S → ℕ) (on : (s t u : S) (xs ys : List SourceAnswer) → drawn s xs t → drawn t ys u → drawn s (xs ++ ys) u) (wake : AtWake) (f : Seen → Bool) where
  -- An admitted event came, and is given.
  pub asked_came : (s m t : ReaderState S) (i : ℕ) (patience : Patience) (taken : Taken (InternalEvent A)) → Asking A drawn failed on wake f s m i → Allows patience (i + 1) → DrawsOne drawn failed wake f m t (once.Came taken)
      → Asked drawn failed wake f patience s t (Ok (Some taken))
  asked_came s m t i patience taken a h d =
      let x = seen taken.event in
      let none : first_admitted f t.store.held ≡ None = ap (first_admitted f) d.4 ∙ still_none wake f s.store m.store a.answers a.none a.arrives a.passes in (
        a.answers ++ Gave x ∷ [],
        on s.source m.source t.source a.answers (Gave x ∷ []) a.drawn_so d.0,
        arrives_more s.store m.store (held_with t.store (kept taken)) a.answers (Gave x ∷ []) a.arrives d.1,
        inr (a.none, record { before = a.answers; event = x; all = refl; passed = a.passes; admitted = d.2 }, subst (Allows patience) (sym (one_more A drawn failed on wake f s m i (Gave x) a)) h),
        tt,
        steady_more A drawn failed on wake f s m t i (Gave x) a (λ z. d.3),
        takes_newest f t.store.held (kept taken) (held_with t.store (kept taken)) t.store refl refl refl none d.2,
      )
