-- The longest list is the one that is bound to the most of the keys in front.
use Rattle.std.proofs.Common.{◌≡◌, ℕ, suc, zero, ◌-◌, ◌<◌, ◌≤◌, Bool, true, false, cond, ◌&&◌, nat_eq, nat_lt, min, List, [], ◌∷◌, length, take, Option, Some, None, refl, sym, ap, ◌∙◌, arith}
use Rattle.std.specs.HashMap.{HashMap}
use Rattle.std.proofs.lemmas.Bool.Decides.{nat_tests}
use Rattle.std.proofs.lemmas.List.{length-take-le}
use Rattle.crossterm_types.specs.declared.event.key.KeyEvent.{KeyEvent}
use Rattle.keymap.proofs.Cutting.{front_length}
use Rattle.keymap.specs.Bindings.{AreShort, are_same}
use Rattle.keymap.specs.Chords.{Bound, is_front, longer_match, longest, longest_from, match_of, same_chord}
use Rattle.keymap.specs.inside.Places.{HasPlaces, deepest, found_or, number_from, place_at}
use Rattle.keymap.specs.declared.inside.Match.{Match}
use Rattle.keymap.specs.declared.inside.Place.{Place}

-- No number is found for the greatest count.
pub deepest_less : (f : ℕ → Option ℕ) (m : ℕ) → 0 < m → f m ≡ None → deepest f m ≡ deepest f (m - 1)
deepest_less f zero some none = absurd (omega (arith, some))
deepest_less f (suc m) some none =
    let less : m ≡ suc m - 1 = omega arith in
    ap (λ o. found_or o (suc m) (deepest f m)) none ∙ ap (deepest f) less

-- Numbers that are the same up to some count.
pub deepest_same : (f g : ℕ → Option ℕ) (m : ℕ) → ((n : ℕ) → n ≤ m → f n ≡ g n) → deepest f m ≡ deepest g m
deepest_same f g zero same = refl
deepest_same f g (suc m) same =
    ap (λ o. found_or o (suc m) (deepest f m)) (same (suc m) (omega arith)) ∙ ap (found_or (g (suc m)) (suc m)) (deepest_same f g m (λ n l. same n (omega (arith, l))))

none_deepest : (m : ℕ) → deepest (λ n. None) m ≡ None
none_deepest zero = refl
none_deepest (suc m) = none_deepest m

-- What is found has no greater count.
count_within : (found : Option ℕ) (m : ℕ) (rest : Option Match) (x : Match) → ((y : Match) → rest ≡ Some y → y.count ≤ m) → found_or found (suc m) rest ≡ Some x → x.count ≤ suc m
count_within None m rest x within h = let l = within x h in omega (arith, l)
count_within (Some i) m rest x within h = grind (arith, h)

deepest_within : (f : ℕ → Option ℕ) (m : ℕ) (x : Match) → deepest f m ≡ Some x → x.count ≤ m
deepest_within f zero x h = grind (arith, h)
deepest_within f (suc m) x h = count_within (f (suc m)) m (deepest f m) x (λ y k. deepest_within f m y k) h

not_less : (m n : ℕ) → n ≤ m → false ≡ nat_lt m n
not_less m n l = grind (arith, nat_tests)

less : (m n : ℕ) → m ≤ suc n → nat_eq m (suc n) ≡ false → true ≡ nat_lt m (suc n)
less m n l h = grind (arith, nat_tests)

first_longer : (a : Match) (o : Option Match) → ((y : Match) → o ≡ Some y → y.count ≤ a.count) → Some a ≡ longer_match (Some a) o
first_longer a None within = refl
first_longer a (Some b) within = ap (λ c. cond c (Some b) (Some a)) (not_less a.count b.count (within b refl))

-- One more number, at one count.
abbrev pub put_at : ℕ → ℕ → (ℕ → Option ℕ) → ℕ → Option ℕ
put_at i m g n = cond (nat_eq m n) (Some i) (g n)

apart : (m k : ℕ) → k < m → nat_eq m k ≡ false
apart m k l = grind (arith, nat_tests)

same_number : (m n : ℕ) → nat_eq m n ≡ true → m ≡ n
same_number m n h = grind (arith, nat_tests)

-- Another number is found for the greatest count, or none.
after_put : (i m n : ℕ) (g : Option ℕ) (rest more : Option Match) → m ≤ suc n → nat_eq m (suc n) ≡ false → (g ≡ None → more ≡ longer_match (Some (record { number = i; count = m })) rest)
    → found_or g (suc n) more ≡ longer_match (Some (record { number = i; count = m })) (found_or g (suc n) rest)
after_put i m n None rest more l h on = on refl
after_put i m n (Some j) rest more l h on = ap (λ c. cond c (Some (record { number = j; count = suc n })) (Some (record { number = i; count = m }))) (less m n l h)

put_within : (i m : ℕ) (g : ℕ → Option ℕ) (n : ℕ) (here : Bool) → 0 < m → m ≤ suc n → nat_eq m (suc n) ≡ here
    → (m ≤ n → deepest (put_at i m g) n ≡ longer_match (Some (record { number = i; count = m })) (deepest g n))
    → found_or (cond here (Some i) (g (suc n))) (suc n) (deepest (put_at i m g) n) ≡ longer_match (Some (record { number = i; count = m })) (deepest g (suc n))
put_within i m g n true some l is on =
    let end : m ≡ suc n = same_number m (suc n) is in
    ap (λ k. Some (record { number = i; count = k })) (sym end)
    ∙ first_longer (record { number = i; count = m }) (deepest g (suc n)) (λ y h. let w = deepest_within g (suc n) y h in omega (arith, w, end))
put_within i m g n false some l is on =
    after_put i m n (g (suc n)) (deepest g n) (deepest (put_at i m g) n) l is (λ none. on (grind (arith, nat_tests)))

pub put_deepest : (i m : ℕ) (g : ℕ → Option ℕ) (n : ℕ) → 0 < m → m ≤ n → deepest (put_at i m g) n ≡ longer_match (Some (record { number = i; count = m })) (deepest g n)
put_deepest i m g zero some l = absurd (omega (arith, some, l))
put_deepest i m g (suc n) some l = put_within i m g n (nat_eq m (suc n)) some l refl (λ within. put_deepest i m g n some within)

-- ---- a list and the keys in front
front_take : (cs ks : List KeyEvent) (n : ℕ) → length cs ≤ n → is_front cs (take n ks) ≡ is_front cs ks
front_take [] ks n l = refl
front_take (c ∷ cs) ks zero l = absurd (omega (arith, l))
front_take (c ∷ cs) [] (suc n) l = refl
front_take (c ∷ cs) (k ∷ ks) (suc n) l = ap (λ b. same_chord c k && b) (front_take cs ks n (omega (arith, l)))

same_at : (b e t : Bool) (i : ℕ) (rest : Option ℕ) → (e ≡ true → b ≡ t) → cond (e && b) (Some i) rest ≡ cond t (cond e (Some i) rest) rest
same_at b true true i rest h = ap (λ c. cond c (Some i) rest) (h refl)
same_at b true false i rest h = ap (λ c. cond c (Some i) rest) (h refl)
same_at b false true i rest h = refl
same_at b false false i rest h = refl

number_front : (i : ℕ) (cs ks : List KeyEvent) (n : ℕ) (rest : Option ℕ) → n ≤ length ks
    → cond (are_same cs (take n ks)) (Some i) rest ≡ cond (is_front cs ks) (cond (nat_eq (length cs) n) (Some i) rest) rest
number_front i cs ks n rest l =
    let taken : length (take n ks) ≡ n = length-take-le n ks l in
    ap (λ k. cond (nat_eq (length cs) k && is_front cs (take n ks)) (Some i) rest) taken
    ∙ same_at (is_front cs (take n ks)) (nat_eq (length cs) n) (is_front cs ks) i rest (λ h. let e = same_number (length cs) n h in front_take cs ks n (omega (arith, e)))

one_longer : (i : ℕ) (cs ks : List KeyEvent) (m : ℕ) (g : ℕ → Option ℕ) (front : Bool) → is_front cs ks ≡ front → 0 < length cs → (length cs ≤ length ks → length cs ≤ m)
    → deepest (λ n. cond front (cond (nat_eq (length cs) n) (Some i) (g n)) (g n)) m ≡ longer_match (cond front (Some (record { number = i; count = length cs })) None) (deepest g m)
one_longer i cs ks m g true is some fits = put_deepest i (length cs) g m some (fits (front_length cs ks is))
one_longer i cs ks m g false is some fits = refl

-- The longest list is the one that is bound to the most of the keys in front, of eight at most.
pub longest_deepest : (i : ℕ) (bound : Bound) (ks : List KeyEvent) → AreShort bound → longest_from i bound ks ≡ deepest (λ n. number_from i bound (take n ks)) (min (length ks) 8)
longest_deepest i [] ks short = sym (none_deepest (min (length ks) 8))
longest_deepest i (cs ∷ bound) ks short =
    let m = min (length ks) 8 in
    let g : ℕ → Option ℕ = λ n. number_from (suc i) bound (take n ks) in
    ap (longer_match (match_of i cs ks)) (longest_deepest (suc i) bound ks short.1)
    ∙ sym (deepest_same (λ n. number_from i (cs ∷ bound) (take n ks)) (λ n. cond (is_front cs ks) (cond (nat_eq (length cs) n) (Some i) (g n)) (g n)) m
    (λ n l. number_front i cs ks n (g n) (omega (arith, l)))
    ∙ one_longer i cs ks m g (is_front cs ks) refl short.0.0 (λ l. let few = short.0.1 in omega (arith, l, few)))

-- What a table finds is the longest list.
pub right_longest : {S : Type 0} (bound : Bound) (places : HashMap (List KeyEvent) Place S) (ks : List KeyEvent) → AreShort bound → HasPlaces bound places
    → deepest (λ n. (place_at places (take n ks)).number) (min (length ks) 8) ≡ longest bound ks
right_longest bound places ks short right_places =
    deepest_same (λ n. (place_at places (take n ks)).number) (λ n. number_from 0 bound (take n ks)) (min (length ks) 8) (λ n l. ap (λ (p : Place). p.number) (right_places (take n ks)))
    ∙ sym (longest_deepest 0 bound ks short)
