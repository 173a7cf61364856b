-- If asking ended with an admitted event, one is held.
use Rattle.std.proofs.Common.{◌≡◌, ◌<◌, ℕ, suc, ◌+◌, Bool, true, false, not, cond, nat_lt, List, [], ◌∷◌, ◌++◌, length, None, Some, Ok, inl, inr, sym, ap, ◌∙◌, arith, append_assoc, append-nil}
use mathlib.Core.Bool.{true≢false}
use Rattle.std.specs.Prelude.{is_some}
use Rattle.std.specs.List.{prefix_len}
use Rattle.std.proofs.lemmas.Bool.Decides.{nat_tests}
use Rattle.crossterm_types.specs.Seen.{Seen}
use Rattle.crossterm_read.specs.Answers.{SourceAnswer, Gave}
use Rattle.crossterm_read.specs.declared.read.reader.AtWake.{AtWake}
use Rattle.crossterm_read.specs.Store.{EventStore, Arrives, arrived, numbered_after}
use Rattle.crossterm_read.specs.Steps.{Patience, Finds, first_admitted, Asks}
use Rattle.crossterm_read.proofs.Asking.{arrived-append}

-- If the last one is admitted, there is a first.
last_below : (p : Seen × ℕ → Bool) (xs : List (Seen × ℕ)) (y : Seen × ℕ) → p y ≡ true → prefix_len (λ h. not (p h)) (xs ++ y ∷ []) < length (xs ++ y ∷ [])
last_below p [] y e = let z : prefix_len (λ h. not (p h)) (y ∷ []) ≡ 0 = ap (λ (b : Bool). cond (not b) (1 + 0) 0) e in omega arith
last_below p (x ∷ xs) y e =
    let low = last_below p xs y e in
    elim (p x) as (λ b. cond (not b) (1 + prefix_len (λ h. not (p h)) (xs ++ y ∷ [])) 0 < suc (length (xs ++ y ∷ []))) [ true ↦ omega arith | false ↦ omega arith ]

pub last_admitted : (f : Seen → Bool) (xs : List (Seen × ℕ)) (x : Seen) (n : ℕ) → f x ≡ true → first_admitted f (xs ++ (x, n) ∷ []) ≡ None → ⊥
last_admitted f xs x n e none =
    let l = last_below (λ h. f h.0) xs (x, n) e in
    let t : nat_lt (prefix_len (λ h. not (f h.0)) (xs ++ (x, n) ∷ [])) (length (xs ++ (x, n) ∷ [])) ≡ true = grind (arith, nat_tests) in
    some_not (sym (ap (λ (b : Bool). cond b (Some (prefix_len (λ h. not (f h.0)) (xs ++ (x, n) ∷ []))) None) t) ∙ none)
  where
    some_not : {i : ℕ} → Some i ≡ None → ⊥
    some_not e = absurd (cc)

-- So it is after asking that found one.
pub ready_there : (wake : AtWake) (f : Seen → Bool) (patience : Patience) (s m : EventStore) (zs : List SourceAnswer) → Asks wake f patience s.held zs (Ok true) → Arrives s zs m → first_admitted f m.held ≡ None → ⊥
ready_there wake f patience s m zs (inl h) a none =
    let same : m.held ≡ s.held = a.held ∙ ap (λ (l : List SourceAnswer). s.held ++ arrived s.arrivals l) h.1 ∙ append-nil s.held in
    true≢false (sym h.0 ∙ ap is_some (sym (ap (first_admitted f) same) ∙ none))
ready_there wake f patience s m zs (inr h) a none =
    let it : Finds wake f zs = h.1 in
    let last : m.held ≡ (s.held ++ arrived s.arrivals it.before) ++ (it.event, numbered_after s.arrivals it.before) ∷ [] =
    a.held ∙ ap (λ (l : List SourceAnswer). s.held ++ arrived s.arrivals l) it.all ∙ ap (λ l. s.held ++ l) (arrived-append s.arrivals it.before (Gave it.event ∷ []))
    ∙ sym (append_assoc s.held (arrived s.arrivals it.before) ((it.event, numbered_after s.arrivals it.before) ∷ [])) in
    last_admitted f (s.held ++ arrived s.arrivals it.before) it.event (numbered_after s.arrivals it.before) it.admitted (sym (ap (first_admitted f) last) ∙ none)
