-- Of two that one filter takes the later one has the greater number. Over what calls do to a store: events arrive, and the first that a filter admits is taken.
use Rattle.std.proofs.Common.{◌≡◌, ℕ, zero, suc, ◌<◌, Bool, true, false, true≢false, List, [], ◌∷◌, ◌++◌, length, get_or, Some, refl, sym, ◌∙◌, subst, append-nil, append_assoc, arith}
use Rattle.std.specs.List.{AllByRecursion, remove}
use Rattle.std.proofs.lemmas.List.Elements.{All-from_recursion}
use Rattle.std.proofs.lemmas.List.Quantifiers.{position-Some}
use Rattle.crossterm_types.specs.Seen.{Seen}
use Rattle.crossterm_types.specs.Admitting.{admitted}
use Rattle.crossterm_types.specs.declared.event.filter.AnyFilter.{AnyFilter}
use Rattle.crossterm_read.specs.Answers.{SourceAnswer, Gave, Nothing, Failed}
use Rattle.crossterm_read.specs.History.{RiseByFilter}
use Rattle.crossterm_read.specs.Store.{IsLow, EventStore, Arrives, arrived, numbered_after, next_number}
use Rattle.crossterm_read.specs.inside.Numbers.{Rise, IsOrderly}
use Rattle.crossterm_read.specs.Steps.{TakeReplies}
use Rattle.crossterm_read.proofs.Asking.{arrives_none, arrives_more}
use Rattle.crossterm_read.proofs.Numbers.{low_next, all_remove, orderly_more, orderly_takes}
use Rattle.crossterm_types.proofs.Lists.{all_map, all_push}

-- What one arrival keeps any arrivals keep.
arrived_keeps : (P : List (Seen × ℕ) → ℕ → Type 0) → ((held : List (Seen × ℕ)) (n : ℕ) (x : Seen) → P held n → P (held ++ (x, n) ∷ []) (next_number n))
    → (held : List (Seen × ℕ)) (n : ℕ) (zs : List SourceAnswer) → P held n → P (held ++ arrived n zs) (numbered_after n zs)
arrived_keeps P step held n [] p = subst (λ l. P l n) (sym (append-nil held)) p
arrived_keeps P step held n (Gave x ∷ zs) p =
    subst (λ l. P l (numbered_after (next_number n) zs)) (append_assoc held ((x, n) ∷ []) (arrived (next_number n) zs)) (arrived_keeps P step (held ++ (x, n) ∷ []) (next_number n) zs (step held n x p))
arrived_keeps P step held n (Nothing ∷ zs) p = arrived_keeps P step held n zs p
arrived_keeps P step held n (Failed kind ∷ zs) p = arrived_keeps P step held n zs p

arrives_keeps : (P : List (Seen × ℕ) → ℕ → Type 0) → ((held : List (Seen × ℕ)) (n : ℕ) (x : Seen) → P held n → P (held ++ (x, n) ∷ []) (next_number n))
    → (s t : EventStore) (zs : List SourceAnswer) → Arrives s zs t → P s.held s.arrivals → P t.held t.arrivals
arrives_keeps P step s t zs a p = subst (λ (y : List (Seen × ℕ) × ℕ). P y.0 y.1) (λ i. (sym a.held i, sym a.arrivals i)) (arrived_keeps P step s.held s.arrivals zs p)

arrives_low : (s t : EventStore) (zs : List SourceAnswer) → Arrives s zs t → IsLow t.arrivals → IsLow s.arrivals
arrives_low s t zs a = arrives_keeps (λ held n. IsLow n → IsLow s.arrivals) (λ held n x h low. h (low_next n low).1) s t zs a (λ low. low)

-- What is held stays orderly with what arrives.
pub orderly_arrived : (held : List (Seen × ℕ)) (n : ℕ) (zs : List SourceAnswer) → IsOrderly held n → IsOrderly (held ++ arrived n zs) (numbered_after n zs)
orderly_arrived held n zs o = arrived_keeps IsOrderly orderly_more held n zs o

-- All that a filter admits, held or yet to come, has a number greater than m.
record Past (f : Seen → Bool) (m : ℕ) (held : List (Seen × ℕ)) (n : ℕ) : Type 0 where
  ahead : AllByRecursion (λ k. f k.0 ≡ true → m < k.1) held
  gone : m < n

abbrev IsPast : (Seen → Bool) → ℕ → List (Seen × ℕ) → ℕ → Type 0
IsPast f m held n = IsLow n → Past f m held n

past_more : (f : Seen → Bool) (m : ℕ) (held : List (Seen × ℕ)) (n : ℕ) (x : Seen) → IsPast f m held n → IsPast f m (held ++ (x, n) ∷ []) (next_number n)
past_more f m held n x p low =
    let l = low_next n low in
    let q = p l.1 in
    let g = q.gone in
    let e = l.0 in
    record { ahead = all_push (λ k. f k.0 ≡ true → m < k.1) held (x, n) q.ahead (λ _. g); gone = omega arith }

-- another's take leaves what is past
past_takes : (f g : Seen → Bool) (m : ℕ) (s t : EventStore) (x : Seen × ℕ) → TakeReplies g s t (Some x) → IsPast f m s.held s.arrivals → IsPast f m t.held t.arrivals
past_takes f g m s t x h p =
    subst (λ (y : EventStore). IsPast f m y.held y.arrivals) (sym h.3) (λ low. let q = p low in record { ahead = all_remove (λ k. f k.0 ≡ true → m < k.1) s.held h.0 q.ahead; gone = q.gone })

-- a filter admits none before the first that it admits, and the numbers after that are greater
ahead_of_first : (f : Seen → Bool) (held : List (Seen × ℕ)) (i : ℕ) (x : Seen × ℕ) → i < length held → get_or held i x ≡ x → ((k : ℕ) → k < i → f (get_or held k x).0 ≡ false) → Rise held
    → AllByRecursion (λ k. f k.0 ≡ true → x.1 < k.1) (remove held i)
ahead_of_first f [] i x there at skipped r = absurd (omega arith)
ahead_of_first f (y ∷ ys) zero x there at skipped r =
    all_map (λ k. x.1 < k.1) (λ k. f k.0 ≡ true → x.1 < k.1) ys (λ k l _. l) (subst (λ (z : Seen × ℕ). AllByRecursion (λ k. z.1 < k.1) ys) at r.0)
ahead_of_first f (y ∷ ys) (suc i) x there at skipped r = (λ yes. absurd (true≢false (sym yes ∙ skipped 0 (omega arith))), ahead_of_first f ys i x (omega arith) at (λ k l. skipped (suc k) (omega arith)) r.1)

-- a take makes its number past
past_now : (f : Seen → Bool) (s t : EventStore) (x : Seen × ℕ) → TakeReplies f s t (Some x) → IsOrderly s.held s.arrivals → IsPast f x.1 t.held t.arrivals
past_now f s t x h o =
    let b = position-Some (λ p. f p.0) s.held h.0 x h.1 in
    subst (λ (y : EventStore). IsPast f x.1 y.held y.arrivals) (sym h.3) (λ low. let q = o low in record {
      ahead = ahead_of_first f s.held h.0 x b.0 h.2 b.2 q.rise;
      gone = subst (λ (y : Seen × ℕ). y.1 < s.arrivals) h.2 (All-from_recursion (λ k. k.1 < s.arrivals) s.held q.below h.0 x b.0);
    })

-- the next take by the same filter has a greater number
past_rises : (f : Seen → Bool) (m : ℕ) (s t : EventStore) (x : Seen × ℕ) → TakeReplies f s t (Some x) → Past f m s.held s.arrivals → m < x.1
past_rises f m s t x h p =
    let b = position-Some (λ k. f k.0) s.held h.0 x h.1 in
    subst (λ (y : Seen × ℕ). m < y.1) h.2 (All-from_recursion (λ k. f k.0 ≡ true → m < k.1) s.held p.ahead h.0 x b.0 b.1)

-- From one store to another these were taken by these filters, and before and after each events arrived.
abbrev pub Does : EventStore → List (AnyFilter × ℕ) → EventStore → Type 0
Does s [] t = (zs : List SourceAnswer) × Arrives s zs t
Does s (y ∷ ys) t = (zs : List SourceAnswer) × (m : EventStore) × (x : Seen × ℕ) × (k : EventStore) × Arrives s zs m × TakeReplies (admitted y.0) m k (Some x) × (x.1 ≡ y.1) × Does k ys t

-- Nothing is taken.
pub none_does : (s : EventStore) → Does s [] s
none_does s = ([], arrives_none s)

-- One is taken.
pub take_does : (f : AnyFilter) (s t : EventStore) (x : Seen × ℕ) → TakeReplies (admitted f) s t (Some x) → Does s ((f, x.1) ∷ []) t
take_does f s t x h = ([], s, x, t, arrives_none s, h, refl, none_does t)

-- The one and then the other.
pub both_do : (s m t : EventStore) (xs ys : List (AnyFilter × ℕ)) → Does s xs m → Does m ys t → Does s (xs ++ ys) t
both_do s m t [] [] a b = (a.0 ++ b.0, arrives_more s m t a.0 b.0 a.1 b.1)
both_do s m t [] (y ∷ ys) a b = (a.0 ++ b.0, b.1, b.2, b.3, arrives_more s m b.1 a.0 b.0 a.1 b.4, b.5, b.6, b.7)
both_do s m t (x ∷ xs) ys a b = (a.0, a.1, a.2, a.3, a.4, a.5, a.6, both_do a.3 m t xs ys a.7 b)

does_low : (s t : EventStore) (ys : List (AnyFilter × ℕ)) → Does s ys t → IsLow t.arrivals → IsLow s.arrivals
does_low s t [] h low = arrives_low s t h.0 h.1 low
does_low s t (y ∷ ys) h low = arrives_low s h.1 h.0 h.4 (subst (λ (k : EventStore). IsLow k.arrivals) h.5.3 (does_low h.3 t ys h.7 low))

does_past : (f : AnyFilter) (m : ℕ) (s t : EventStore) (ys : List (AnyFilter × ℕ)) → Does s ys t → IsLow t.arrivals → IsPast (admitted f) m s.held s.arrivals → AllByRecursion (λ y. y.0 ≡ f → m < y.1) ys
does_past f m s t [] h low p = tt
does_past f m s t (y ∷ ys) h low p =
    let q = arrives_keeps (IsPast (admitted f) m) (past_more (admitted f) m) s h.1 h.0 h.4 p in
    let mid : IsLow h.1.arrivals = subst (λ (k : EventStore). IsLow k.arrivals) h.5.3 (does_low h.3 t ys h.7 low) in (
      λ e. subst (λ (n : ℕ). m < n) h.6 (past_rises (admitted f) m h.1 h.3 h.2 (subst (λ (a : AnyFilter). TakeReplies (admitted a) h.1 h.3 (Some h.2)) e h.5) (q mid)),
      does_past f m h.3 t ys h.7 low (past_takes (admitted f) (admitted y.0) m h.1 h.3 h.2 h.5 q),
    )

-- Of two that were taken by one filter the later one has the greater number.
pub does_rise : (s t : EventStore) (ys : List (AnyFilter × ℕ)) → Does s ys t → IsLow t.arrivals → IsOrderly s.held s.arrivals → RiseByFilter ys
does_rise s t [] h low o = tt
does_rise s t (y ∷ ys) h low o =
    let q = arrives_keeps IsOrderly orderly_more s h.1 h.0 h.4 o in (
      does_past y.0 y.1 h.3 t ys h.7 low (subst (λ (n : ℕ). IsPast (admitted y.0) n h.3.held h.3.arrivals) h.6 (past_now (admitted y.0) h.1 h.3 h.2 h.5 q)),
      does_rise h.3 t ys h.7 low (orderly_takes (admitted y.0) h.1 h.3 (Some h.2) q h.5),
    )
