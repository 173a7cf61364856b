-- Arrival numbers rise.
use Rattle.std.proofs.Common.{◌≡◌, ℕ, zero, suc, ◌+◌, ◌<◌, ◌≤◌, Bool, List, [], ◌∷◌, ◌++◌, Option, Some, None, ap, sym, subst, ◌∙◌, arith}
use Rattle.std.specs.List.{AllByRecursion, remove}
use Rattle.crossterm_types.specs.Seen.{Seen}
use Rattle.crossterm_read.specs.Store.{IsLow, EventStore, Arrives, next_number}
use Rattle.crossterm_read.specs.inside.Asking.{held_with}
use Rattle.crossterm_read.specs.inside.Numbers.{Rise, IsOrderly}
use Rattle.crossterm_read.specs.Answers.{Gave}
use Rattle.crossterm_read.specs.Steps.{TakeReplies}
use Rattle.crossterm_types.proofs.Lists.{all_push}

-- The number before a low one is low, and one less.
pub low_next : (n : ℕ) → IsLow (next_number n) → (next_number n ≡ n + 1) × IsLow n
low_next n h = (omega arith, omega arith)

below_later : (xs : List (Seen × ℕ)) (m n : ℕ) → m ≤ n → AllByRecursion (λ k. k.1 < m) xs → AllByRecursion (λ k. k.1 < n) xs
below_later [] m n h a = tt
below_later (x ∷ xs) m n h a = (let b = a.0 in omega arith, below_later xs m n h a.1)

rise_push : (xs : List (Seen × ℕ)) (x : Seen) (n : ℕ) → Rise xs → AllByRecursion (λ k. k.1 < n) xs → Rise (xs ++ (x, n) ∷ [])
rise_push [] x n r b = (tt, tt)
rise_push (y ∷ ys) x n r b = (all_push (λ k. y.1 < k.1) ys (x, n) r.0 b.0, rise_push ys x n r.1 b.1)

-- One more is held.
pub orderly_more : (held : List (Seen × ℕ)) (n : ℕ) (x : Seen) → IsOrderly held n → IsOrderly (held ++ (x, n) ∷ []) (next_number n)
orderly_more held n x h low =
    let l = low_next n low in
    let s = h l.1 in
    let e = l.0 in
    record {
      rise = rise_push held x n s.rise s.below;
      below = all_push (λ k. k.1 < next_number n) held (x, n) (below_later held n (next_number n) (omega arith) s.below) (omega arith);
    }

-- What holds of each holds of each that is left.
pub all_remove : (P : Seen × ℕ → Type 0) (xs : List (Seen × ℕ)) (i : ℕ) → AllByRecursion P xs → AllByRecursion P (remove xs i)
all_remove P [] zero a = tt
all_remove P [] (suc i) a = tt
all_remove P (x ∷ xs) zero a = a.1
all_remove P (x ∷ xs) (suc i) a = (a.0, all_remove P xs i a.1)

rise_remove : (xs : List (Seen × ℕ)) (i : ℕ) → Rise xs → Rise (remove xs i)
rise_remove [] zero r = tt
rise_remove [] (suc i) r = tt
rise_remove (x ∷ xs) zero r = r.1
rise_remove (x ∷ xs) (suc i) r = (all_remove (λ k. x.1 < k.1) xs i r.0, rise_remove xs i r.1)

-- One is taken.
orderly_less : (held : List (Seen × ℕ)) (n i : ℕ) → IsOrderly held n → IsOrderly (remove held i) n
orderly_less held n i h low = let s = h low in record { rise = rise_remove held i s.rise; below = all_remove (λ k. k.1 < n) held i s.below }

-- The number of an event that isn't held is given.
pub orderly_later : (held : List (Seen × ℕ)) (n : ℕ) → IsOrderly held n → IsOrderly held (next_number n)
orderly_later held n h low =
    let l = low_next n low in
    let s = h l.1 in
    let e = l.0 in
    record { rise = s.rise; below = below_later held n (next_number n) (omega arith) s.below }

-- What an answer and a take leave is orderly.
pub orderly_arrives : (s t : EventStore) (x : Seen) → IsOrderly s.held s.arrivals → Arrives s (Gave x ∷ []) t → IsOrderly t.held t.arrivals
orderly_arrives s t x o a = subst (λ (y : List (Seen × ℕ) × ℕ). IsOrderly y.0 y.1) (λ i. (sym a.held i, sym a.arrivals i)) (orderly_more s.held s.arrivals x o)

pub orderly_takes : (f : Seen → Bool) (s t : EventStore) (x : Option (Seen × ℕ)) → IsOrderly s.held s.arrivals → TakeReplies f s t x → IsOrderly t.held t.arrivals
orderly_takes f s t None o h = subst (λ (y : EventStore). IsOrderly y.held y.arrivals) (sym h.1) o
orderly_takes f s t (Some x) o h = subst (λ (y : EventStore). IsOrderly y.held y.arrivals) (sym h.3) (orderly_less s.held s.arrivals h.0 o)

-- The arrival of an event that isn't held, with its number.
pub came_arrives : (s r t : EventStore) (x : Seen) (number : ℕ) → r ≡ s → number ≡ r.arrivals → t.held ≡ r.held → t.arrivals ≡ next_number r.arrivals → Arrives s (Gave x ∷ []) (held_with t (x, number))
came_arrives s r t x number e n h a =
    let held : t.held ≡ s.held = h ∙ ap (λ (y : EventStore). y.held) e in
    let arrivals : number ≡ s.arrivals = n ∙ ap (λ (y : EventStore). y.arrivals) e in
    record {
      held = λ i. held i ++ (x, arrivals i) ∷ [];
      arrivals = a ∙ ap (λ (y : EventStore). next_number y.arrivals) e;
    }
