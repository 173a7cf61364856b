-- Lists of calls and of passes.
use Rattle.std.proofs.Common.{◌≡◌, ◌≢◌, ◌⊎◌, ℕ, zero, suc, ◌==◌, ◌<◌, ◌≤◌, nat_lt, eq-eqb, ne_eqb, lt-ltb, ltb-true, ltb-false, cond, List, [], ◌∷◌, ◌++◌, length, Some, None, Bool, true, false, true≢false, refl, sym, ap, ◌∙◌, subst, inl, inr, ⊎_elim, arith, append_assoc, append-nil, length-append}
use Rattle.std.proofs.lemmas.Bool.{and_from, and_parts}
use mathlib.Core.Option.{some, some-ne-none}
use lib.ListN.{get_elem?}
use Rattle.crossterm_read.specs.History.{Entry, StartsWith, are_of, calls_by}
use Rattle.crossterm_read.specs.inside.Slot.{longer}

pub off : false ≡ true → ⊥
off e = true≢false (sym e)

pub some_of : {A : Type 0} (a b : A) → Some a ≡ Some b → a ≡ b
some_of a b e = cc

pub none_not : {A : Type 0} (a : A) → None ≡ Some a → ⊥
none_not a e = absurd (cc)

pub some_at : {A : Type 0} (a b : A) → some a ≡ some b → a ≡ b
some_at a b e = cc

pub calls_by-append : (by : ℕ) (xs ys : List Entry) → calls_by by (xs ++ ys) ≡ calls_by by xs ++ calls_by by ys
calls_by-append by [] ys = refl
calls_by-append by (e ∷ es) ys = elim (e.by == by) as (λ b. cond b (e ∷ calls_by by (es ++ ys)) (calls_by by (es ++ ys)) ≡ cond b (e ∷ calls_by by es) (calls_by by es) ++ calls_by by ys) [ true ↦ ap (λ l. e ∷ l) (calls_by-append by es ys) | false ↦ calls_by-append by es ys ]

pub calls_by-mine : (by : ℕ) (e : Entry) → e.by ≡ by → calls_by by (e ∷ []) ≡ e ∷ []
calls_by-mine by e is = ap (λ b. cond b (e ∷ []) []) (eq-eqb e.by by is)

pub calls_by-other : (by : ℕ) (e : Entry) → e.by ≢ by → calls_by by (e ∷ []) ≡ []
calls_by-other by e apart = ap (λ b. cond b (e ∷ []) []) (ne_eqb e.by by apart)

-- If there is such a place, it lies in the list.
pub below : {A : Type 0} (l : List A) (j : ℕ) (a : A) → get_elem? l j ≡ some a → j < length l
below [] j a e = absurd (some-ne-none a (sym e))
below (x ∷ xs) zero a e = omega arith
below (x ∷ xs) (suc j) a e = let h = below xs j a e in omega arith

pub first_there : {A : Type 0} (l : List A) (j : ℕ) (a : A) → get_elem? l j ≡ some a → (b : A) × (get_elem? l 0 ≡ some b)
first_there [] j a e = absurd (some-ne-none a (sym e))
first_there (x ∷ xs) j a e = (x, refl)

pub at_end : {A : Type 0} (l : List A) (a b : A) (j : ℕ) → get_elem? (l ++ a ∷ []) j ≡ some b → (get_elem? l j ≡ some b) ⊎ ((j ≡ length l) × (a ≡ b))
at_end [] a b zero e = inr (refl, some_at a b e)
at_end [] a b (suc j) e = absurd (some-ne-none b (sym e))
at_end (x ∷ xs) a b zero e = inl e
at_end (x ∷ xs) a b (suc j) e = ⊎_elim (λ was. inl was) (λ (q : (j ≡ length xs) × (a ≡ b)). inr (ap suc q.0, q.1)) (at_end xs a b j e)

pub same_or_not : (a b : ℕ) → (a ≡ b) ⊎ (a ≢ b)
same_or_not zero zero = inl refl
same_or_not zero (suc b) = inr (λ q. absurd (omega arith))
same_or_not (suc a) zero = inr (λ q. absurd (omega arith))
same_or_not (suc a) (suc b) = ⊎_elim (λ (q : a ≡ b). inl (ap suc q)) (λ (q : a ≢ b). inr (λ r. q (omega arith))) (same_or_not a b)

pub are_front : (n : ℕ) (xs ys : List Entry) → are_of n (xs ++ ys) ≡ true → are_of n xs ≡ true
are_front n [] ys h = refl
are_front n (x ∷ xs) ys h = let p = and_parts (nat_lt x.by n) (are_of n (xs ++ ys)) h in and_from (nat_lt x.by n) (are_of n xs) p.0 (are_front n xs ys p.1)

pub are_snoc : (n : ℕ) (log : List Entry) (e : Entry) → are_of n log ≡ true → e.by < n → are_of n (log ++ e ∷ []) ≡ true
are_snoc n [] e h less = and_from (nat_lt e.by n) true (lt-ltb e.by n less) refl
are_snoc n (x ∷ xs) e h less = let p = and_parts (nat_lt x.by n) (are_of n xs) h in and_from (nat_lt x.by n) (are_of n (xs ++ e ∷ [])) p.0 (are_snoc n xs e p.1 less)

pub are_more : (n m : ℕ) (log : List Entry) → n ≤ m → are_of n log ≡ true → are_of m log ≡ true
are_more n m [] le h = refl
are_more n m (x ∷ xs) le h =
    let p = and_parts (nat_lt x.by n) (are_of n xs) h in
    let less = ltb-true x.by n p.0 in
    and_from (nat_lt x.by m) (are_of m xs) (lt-ltb x.by m (omega arith)) (are_more n m xs le p.1)

-- None of these calls is a later pass's.
pub none_past : (n by : ℕ) (log : List Entry) → are_of n log ≡ true → n ≤ by → calls_by by log ≡ []
none_past n by [] h le = refl
none_past n by (x ∷ xs) h le =
    let p = and_parts (nat_lt x.by n) (are_of n xs) h in
    let less = ltb-true x.by n p.0 in
    ap (λ b. cond b (x ∷ calls_by by xs) (calls_by by xs)) (ne_eqb x.by by (λ q. absurd (omega arith))) ∙ none_past n by xs p.1 le

nil_of : {A : Type 0} (xs : List A) → length xs ≡ 0 → xs ≡ []
nil_of [] e = refl
nil_of (x ∷ xs) e = absurd (omega arith)

pub none_more : {A : Type 0} (xs ys : List A) → xs ++ ys ≡ xs → ys ≡ []
none_more xs ys e = nil_of ys (let h = ap length e in let k = length-append xs ys in omega arith)

pub starts_on : (xs ys zs : List Entry) → StartsWith xs zs → StartsWith (xs ++ ys) zs
starts_on xs ys zs p = (p.0 ++ ys, ap (λ l. l ++ ys) p.1 ∙ append_assoc zs p.0 ys)

pub tail_same : {A : Type 0} {x y : A} {xs ys : List A} → x ∷ xs ≡ y ∷ ys → xs ≡ ys
tail_same e = cc

pub head_same : {A : Type 0} {x y : A} {xs ys : List A} → x ∷ xs ≡ y ∷ ys → x ≡ y
head_same e = cc

-- Of two beginnings of one list the longer one begins with the shorter one.
nested : (log xs ys : List Entry) → StartsWith log xs → StartsWith log ys → length xs ≤ length ys → StartsWith ys xs
nested log [] ys p q le = (ys, refl)
nested log (x ∷ xs) [] p q le = absurd (omega arith)
nested [] (x ∷ xs) (y ∷ ys) p q le = absurd (let h = ap length p.1 in omega arith)
nested (z ∷ log) (x ∷ xs) (y ∷ ys) p q le =
    let r = nested log xs ys (p.0, tail_same p.1) (q.0, tail_same q.1) (omega arith) in
    (r.0, ap (λ (e : Entry). e ∷ ys) (sym (head_same q.1) ∙ head_same p.1) ∙ ap (λ l. x ∷ l) r.1)

longer_is : (xs ys : List Entry) → ((length xs < length ys) × (longer xs ys ≡ ys)) ⊎ ((length ys ≤ length xs) × (longer xs ys ≡ xs))
longer_is xs ys = by_test (nat_lt (length xs) (length ys)) refl
  where
    by_test : (b : Bool) → nat_lt (length xs) (length ys) ≡ b → ((length xs < length ys) × (longer xs ys ≡ ys)) ⊎ ((length ys ≤ length xs) × (longer xs ys ≡ xs))
    by_test true e = inl (ltb-true (length xs) (length ys) e, ap (λ b. cond b ys xs) e)
    by_test false e = inr (ltb-false (length xs) (length ys) e, ap (λ b. cond b ys xs) e)

-- What is true of the longer one of two beginnings.
pub longer_starts : (log xs ys : List Entry) → StartsWith log xs → StartsWith log ys → StartsWith log (longer xs ys)
longer_starts log xs ys p q = ⊎_elim
    (λ (h : (length xs < length ys) × (longer xs ys ≡ ys)). subst (StartsWith log) (sym h.1) q)
    (λ (h : (length ys ≤ length xs) × (longer xs ys ≡ xs)). subst (StartsWith log) (sym h.1) p)
    (longer_is xs ys)

pub longer_ours : (log xs ys : List Entry) → StartsWith log xs → StartsWith log ys → StartsWith (longer xs ys) xs
longer_ours log xs ys p q = ⊎_elim
    (λ (h : (length xs < length ys) × (longer xs ys ≡ ys)). subst (λ l. StartsWith l xs) (sym h.1) (nested log xs ys p q (let k = h.0 in omega arith)))
    (λ (h : (length ys ≤ length xs) × (longer xs ys ≡ xs)). ([], h.1 ∙ sym (append-nil xs)))
    (longer_is xs ys)

pub longer_theirs : (log xs ys : List Entry) → StartsWith log xs → StartsWith log ys → StartsWith (longer xs ys) ys
longer_theirs log xs ys p q = ⊎_elim
    (λ (h : (length xs < length ys) × (longer xs ys ≡ ys)). ([], h.1 ∙ sym (append-nil ys)))
    (λ (h : (length ys ≤ length xs) × (longer xs ys ≡ xs)). subst (λ l. StartsWith l ys) (sym h.1) (nested log ys xs q p h.0))
    (longer_is xs ys)

all_of : (log xs : List Entry) → StartsWith log xs → length log ≤ length xs → xs ≡ log
all_of log xs p le = sym (p.1 ∙ ap (λ l. xs ++ l) (nil_of p.0 (let h = ap length p.1 in let k = length-append xs p.0 in omega arith)) ∙ append-nil xs)

-- A beginning that is all of it stays the longer one.
pub longer_whole : (log xs ys : List Entry) → StartsWith log ys → xs ≡ log → longer xs ys ≡ log
longer_whole log xs ys q is = all_of log (longer xs ys) (longer_starts log xs ys ([], sym is ∙ sym (append-nil xs)) q) (let h = ap length is in let r = longer_ours log xs ys ([], sym is ∙ sym (append-nil xs)) q in let k = ap length r.1 in let m = length-append xs r.0 in omega arith)

-- The calls of a pass, of which none come after the first beginning.
pub longer_calls : (log xs ys : List Entry) (by : ℕ) (mine : List Entry) → StartsWith log xs → StartsWith log ys → calls_by by xs ≡ mine → calls_by by log ≡ mine → calls_by by (longer xs ys) ≡ mine
longer_calls log xs ys by mine p q own all =
    let r = longer_ours log xs ys p q in
    let s = longer_starts log xs ys p q in
    let later : calls_by by log ≡ mine ++ (calls_by by r.0 ++ calls_by by s.0) =
    ap (calls_by by) (s.1 ∙ ap (λ l. l ++ s.0) r.1 ∙ append_assoc xs r.0 s.0) ∙ calls_by-append by xs (r.0 ++ s.0) ∙ ap (λ l. l ++ calls_by by (r.0 ++ s.0)) own ∙ ap (λ l. mine ++ l) (calls_by-append by r.0 s.0) in
    let none : calls_by by r.0 ++ calls_by by s.0 ≡ [] = none_more mine (calls_by by r.0 ++ calls_by by s.0) (sym later ∙ all) in
    let quiet : calls_by by r.0 ≡ [] = nil_of (calls_by by r.0) (let h = ap length none in let k = length-append (calls_by by r.0) (calls_by by s.0) in omega arith) in
    ap (calls_by by) r.1 ∙ calls_by-append by xs r.0 ∙ ap (λ l. l ++ calls_by by r.0) own ∙ ap (λ l. mine ++ l) quiet ∙ append-nil mine
