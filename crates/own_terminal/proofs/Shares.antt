-- Elements made from others, one by one.
use Rattle.std.specs.Prelude.{◌≡◌, ◌++◌, ◌∷◌, ◌+◌, [], ℕ, All, List, drop, get_or, length, map, suc, zero}
use Rattle.std.specs.List.{range_with_len}
use Rattle.std.proofs.Common.{ap, append_assoc, arith, refl, subst, sym, ◌∙◌}
use Rattle.std.proofs.lemmas.List.{length-append, length-map, map-append}
use Rattle.std.proofs.lemmas.List.Elements.{All-append}
use Rattle.std.proofs.lemmas.List.FromFn.{length-range_with_len, map-range_with_len_more}
use Rattle.std.proofs.lemmas.Simd.{map-map}

-- What holds of all elements holds of those behind the first.
pub all_rest : {X : Type 0} (P : X → Type 0) (x : X) (xs : List X) → All P (x ∷ xs) → All P xs
all_rest P x xs all k d h = all (suc k) d (omega (arith, h))

all_one : {X : Type 0} (P : X → Type 0) (x : X) → P x → All P (x ∷ [])
all_one P x p zero d h = p
all_one P x p (suc k) d h = absurd (omega (arith, h))

-- One more is made: from the first of those that are left.
pub made_on : {X Y : Type 0} (f : Y → X) (P : X → Type 0) (Q : Y → Type 0) (made more : List Y) (rest left all : List X) (x : X) (y : Y)
    → map f made ++ rest ≡ all → All P rest → All Q made → rest ≡ x ∷ left → more ≡ made ++ y ∷ [] → f y ≡ x → Q y
    → (map f more ++ left ≡ all) × All P left × All Q more
made_on f P Q made more rest left all x y joined ofRest ofMade first grown same q = (
  ap (λ ys. map f ys ++ left) grown
      ∙ ap (λ xs. xs ++ left) (map-append f made (y ∷ []))
      ∙ append_assoc (map f made) (f y ∷ []) left
      ∙ ap (λ z. map f made ++ (z ∷ left)) same
      ∙ ap (λ xs. map f made ++ xs) (sym first)
      ∙ joined,
  all_rest P x left (subst (λ xs. All P xs) first ofRest),
  subst (λ ys. All Q ys) (sym grown) (All-append Q made (y ∷ []) ofMade (all_one Q y q)),
)

-- Of two lists that are the same, the fronts and the last elements are.
pub front_and_last : {X : Type 0} (xs ys : List X) (x y : X) → xs ++ x ∷ [] ≡ ys ++ y ∷ [] → (xs ≡ ys) × (x ≡ y)
front_and_last [] [] x y e = (refl, ap (λ l. get_or l 0 x) e)
front_and_last [] (b ∷ ys) x y e = absurd (omega (arith, ap (λ l. length l) e, length-append ys (y ∷ [])))
front_and_last (a ∷ xs) [] x y e = absurd (omega (arith, ap (λ l. length l) e, length-append xs (x ∷ [])))
front_and_last (a ∷ xs) (b ∷ ys) x y e =
    let r = front_and_last xs ys x y (ap (λ l. drop 1 l) e) in
    (ap (λ z. z ∷ xs) (ap (λ l. get_or l 0 a) e) ∙ ap (λ l. b ∷ l) r.0, r.1)

-- What elements know goes by their numbers.
by_numbers : {X K : Type 0} (number : X → ℕ) (know : X → K) (at : ℕ → K) (xs : List X) → All (λ x. know x ≡ at (number x)) xs → map know xs ≡ map at (map number xs)
by_numbers number know at [] all = refl
by_numbers number know at (x ∷ xs) all =
    ap (λ k. k ∷ map know xs) (all zero x (omega arith)) ∙ ap (λ ks. at (number x) ∷ ks) (by_numbers number know at xs (all_rest (λ x. know x ≡ at (number x)) x xs all))

-- So with as many as there are numbers and one more, of which the last is set apart.
pub known_apart : {X Y K : Type 0} (number : X → ℕ) (know : X → K) (at : ℕ → K) (of : Y → X) (n : ℕ) (xs : List X) (ys : List Y) (y : Y)
    → map of (ys ++ y ∷ []) ≡ xs → map number xs ≡ range_with_len 0 (n + 1) → All (λ x. know x ≡ at (number x)) xs
    → (map (λ z. know (of z)) ys ≡ map at (range_with_len 0 n)) × (know (of y) ≡ at n)
known_apart number know at of n xs ys y same numbers all =
    front_and_last (map (λ z. know (of z)) ys) (map at (range_with_len 0 n)) (know (of y)) (at n)
    (sym (map-append (λ z. know (of z)) ys (y ∷ []))
    ∙ sym (map-map know of (ys ++ y ∷ []))
    ∙ ap (map know) same
    ∙ by_numbers number know at xs all
    ∙ ap (map at) numbers
    ∙ map-range_with_len_more at 0 n n (omega arith))

-- With as many as there are numbers and one more, there is one.
pub some_made : {X Y : Type 0} (number : X → ℕ) (of : Y → X) (n : ℕ) (xs : List X) (ys : List Y) → map of ys ≡ xs → map number xs ≡ range_with_len 0 (n + 1) → length ys ≡ 0 → ⊥
some_made number of n xs ys same numbers none =
    omega (arith, length-range_with_len 0 (n + 1), ap (λ l. length l) numbers, length-map xs number, ap (λ l. length l) same, length-map ys of, none)

-- What holds of all elements holds of the front and of the last one.
pub all_apart : {X : Type 0} (P : X → Type 0) (xs : List X) (x : X) → All P (xs ++ x ∷ []) → All P xs × P x
all_apart P [] x all = (λ k d h. absurd (omega (arith, h)), all zero x (omega arith))
all_apart P (y ∷ ys) x all =
    let r = all_apart P ys x (all_rest P y (ys ++ x ∷ []) all) in
    (All-append P (y ∷ []) ys (all_one P y (all zero y (omega arith))) r.0, r.1)

-- All that are alike in something are as the last one in it.
pub all_alike : {X Z : Type 0} (at : X → Z) (n : Z) (xs : List X) (x : X) → All (λ y. at y ≡ n) (xs ++ x ∷ []) → All (λ y. at y ≡ at x) xs
all_alike at n xs x all =
    let r = all_apart (λ y. at y ≡ n) xs x all in
    λ k d h. r.0 k d h ∙ sym r.1

-- Of two elements, taken from the end, what they are seen as.
pub last_two : {X K : Type 0} (f : X → K) (items more front : List X) (x y : X) (a b : K)
    → items ≡ more ++ y ∷ [] → more ≡ front ++ x ∷ [] → map f items ≡ a ∷ b ∷ [] → (f x ≡ a) × (f y ≡ b)
last_two f items more front x y a b e d seen =
    let second = front_and_last (map f more) (a ∷ []) (f y) b (sym (map-append f more (y ∷ [])) ∙ ap (map f) (sym e) ∙ seen) in
    let first = front_and_last (map f front) [] (f x) a (sym (map-append f front (x ∷ [])) ∙ ap (map f) (sym d) ∙ second.0) in
    (first.1, second.1)

-- There are as many as there are numbers but one.
pub all_but_one : {X Y : Type 0} (number : X → ℕ) (of : Y → X) (n : ℕ) (xs : List X) (made ys : List Y) (y : Y)
    → map of made ≡ xs → map number xs ≡ range_with_len 0 (n + 1) → made ≡ ys ++ y ∷ [] → length ys ≡ n
all_but_one number of n xs made ys y same numbers apart =
    omega (
      arith,
      length-range_with_len 0 (n + 1),
      ap (λ l. length l) numbers,
      length-map xs number,
      ap (λ l. length l) same,
      length-map made of,
      ap (λ l. length l) apart,
      length-append ys (y ∷ []),
    )
