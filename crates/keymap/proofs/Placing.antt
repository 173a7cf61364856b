-- What a table has after keys that are alike, and after a list is bound.
use Rattle.std.proofs.Common.{◌≡◌, ℕ, suc, zero, ◌+◌, ◌<◌, Bool, true, false, cond, ◌&&◌, ◌||◌, nat_eq, nat_lt, List, [], ◌∷◌, ◌++◌, length, map, take, Option, Some, None, refl, sym, ap, subst, ◌∙◌, arith}
use Rattle.std.specs.Cmp.{IsEquivalence}
use Rattle.std.specs.Cmp.Lexicographic.{pointwise, lists_equiv}
use Rattle.std.specs.HashMap.{HashMap}
use Rattle.std.specs.List.{list_any}
use Rattle.std.specs.Map.{lookup}
use Rattle.std.specs.Option.{is_some, unwrap_or}
use Rattle.std.proofs.lemmas.List.Folds.{list_any-append}
use Rattle.std.proofs.lemmas.Bool.Decides.{nat_tests}
use Rattle.crossterm_types.specs.Compared.{key_eq}
use Rattle.crossterm_types.specs.contracts.event.key.normal.KeyEventEq.TheImpl.Laws.{laws-law}
use Rattle.crossterm_types.specs.declared.event.key.KeyEvent.{KeyEvent}
use Rattle.keymap.specs.Bindings.{are_same, bound_of}
use Rattle.keymap.specs.Chords.{Bound, chord, same_chord, is_front, goes_beyond, is_begun}
use Rattle.keymap.specs.inside.Places.{BindsAt, HasPlaces, HasPlacesOf, are_alike, nowhere, number_from, place_at, with_list}
use Rattle.keymap.specs.declared.inside.BoundList.{BoundList}
use Rattle.keymap.specs.declared.inside.Place.{Place}
use Rattle.keymap.specs.inside.Bindings.{binding}

-- ---- keys that are alike
lookup_same : {K X : Type 0} (p q : K → Bool) → ((k : K) → p k ≡ q k) → (es : List (K × X)) → lookup p es ≡ lookup q es
lookup_same p q same [] = refl
lookup_same p q same (e ∷ es) = ap (λ b. cond b (Some e.1) (lookup p es)) (same e.0) ∙ ap (cond (q e.0) (Some e.1)) (lookup_same p q same es)

keys_equiv : IsEquivalence (pointwise key_eq)
keys_equiv = lists_equiv laws-law

-- A table has the same after keys that are alike.
pub place_alike : {S : Type 0} (places : HashMap (List KeyEvent) Place S) (a b : List KeyEvent) → are_alike a b ≡ true → place_at places a ≡ place_at places b
place_alike places a b same =
    ap (λ o. unwrap_or o nowhere) (lookup_same (pointwise key_eq (map chord a)) (pointwise key_eq (map chord b)) (λ k. keys_equiv.congr (map chord a) (map chord b) k same) places.entries)

-- ---- three truth values
swap_and : (p q r : Bool) → (p && (q && r)) ≡ (q && (p && r))
swap_and true q r = refl
swap_and false true r = refl
swap_and false false r = refl

and_assoc : (p q r : Bool) → (p && (q && r)) ≡ ((p && q) && r)
and_assoc true q r = refl
and_assoc false q r = refl

and_none : (b : Bool) → false ≡ (b && false)
and_none true = refl
and_none false = refl

-- ---- which keys a list and its fronts are alike to
eq_suc : (n m : ℕ) → nat_eq n m ≡ nat_eq (suc n) (suc m)
eq_suc n m = grind (arith, nat_tests)

less_suc : (n m : ℕ) → nat_lt n m ≡ nat_lt (suc n) (suc m)
less_suc n m = grind (arith, nat_tests)

zero_differs : (n : ℕ) → false ≡ nat_eq 0 (suc n)
zero_differs n = grind (arith, nat_tests)

suc_differs : (n : ℕ) → false ≡ nat_eq (suc n) 0
suc_differs n = grind (arith, nat_tests)

zero_less : (n : ℕ) → true ≡ nat_lt 0 (suc n)
zero_less n = grind (arith, nat_tests)

-- Keys are alike exactly if they are the same chords.
pub alike_same : (a b : List KeyEvent) → are_alike a b ≡ are_same a b
alike_same [] [] = refl
alike_same [] (k ∷ ks) = ap (λ b. b && true) (zero_differs (length ks))
alike_same (c ∷ cs) [] = ap (λ b. b && false) (suc_differs (length cs))
alike_same (c ∷ cs) (k ∷ ks) = ap (λ r. same_chord c k && r) (alike_same cs ks) ∙ swap_and (same_chord c k) (nat_eq (length cs) (length ks)) (is_front cs ks)
    ∙ ap (λ e. e && (same_chord c k && is_front cs ks)) (eq_suc (length cs) (length ks))

-- A front of a list is alike to as many keys exactly if the list goes beyond them.
pub front_alike : (cs ks : List KeyEvent) (i : ℕ) → i < length cs → are_alike (take i cs) ks ≡ (goes_beyond cs ks && nat_eq (length ks) i)
front_alike [] ks i l = absurd (omega (arith, l))
front_alike (c ∷ cs) [] zero l = refl
front_alike (c ∷ cs) (k ∷ ks) zero l = and_none (goes_beyond (c ∷ cs) (k ∷ ks)) ∙ ap (λ b. goes_beyond (c ∷ cs) (k ∷ ks) && b) (suc_differs (length ks))
front_alike (c ∷ cs) [] (suc i) l = zero_differs i
front_alike (c ∷ cs) (k ∷ ks) (suc i) l = ap (λ r. same_chord c k && r) (front_alike cs ks i (omega (arith, l))) ∙ and_assoc (same_chord c k) (goes_beyond cs ks) (nat_eq (length ks) i)
    ∙ ap (λ b. (same_chord c k && goes_beyond cs ks) && b) (eq_suc (length ks) i)

-- A list goes beyond fewer keys than it has.
pub beyond_fewer : (cs ks : List KeyEvent) → goes_beyond cs ks ≡ (goes_beyond cs ks && nat_lt (length ks) (length cs))
beyond_fewer [] ks = refl
beyond_fewer (c ∷ cs) [] = zero_less (length cs)
beyond_fewer (c ∷ cs) (k ∷ ks) = ap (λ r. same_chord c k && r) (beyond_fewer cs ks) ∙ and_assoc (same_chord c k) (goes_beyond cs ks) (nat_lt (length ks) (length cs))
    ∙ ap (λ b. (same_chord c k && goes_beyond cs ks) && b) (less_suc (length ks) (length cs))

-- ---- a list is bound
-- once the fronts of fewer chords than `count` are marked
abbrev pub marked_to : List KeyEvent → ℕ → Place → List KeyEvent → Place
marked_to chords count place keys = record { number = place.number; begun = place.begun || (goes_beyond chords keys && nat_lt (length keys) count) }

or_none : (p q : Bool) (n : ℕ) → p ≡ (p || (q && nat_lt n 0))
or_none true q n = refl
or_none false true n = grind (arith, nat_tests)
or_none false false n = refl

-- No front is marked.
pub none_marked : (chords : List KeyEvent) (place : Place) (keys : List KeyEvent) → place ≡ marked_to chords 0 place keys
none_marked chords place keys = ap (λ b. record { number = place.number; begun = b }) (or_none place.begun (goes_beyond chords keys) (length keys))

or_true : (p : Bool) → true ≡ (p || true)
or_true true = refl
or_true false = refl

both_here : (i : ℕ) (b : Bool) (n : ℕ) → (b && nat_eq n i) ≡ true → (b && nat_lt n (i + 1)) ≡ true
both_here i true n h = grind (arith, nat_tests)
both_here i false n h = h

neither_here : (i : ℕ) (b : Bool) (n : ℕ) → (b && nat_eq n i) ≡ false → (b && nat_lt n i) ≡ (b && nat_lt n (i + 1))
neither_here i true n h = grind (arith, nat_tests)
neither_here i false n h = refl

-- One more front is marked.
pub one_marked : (chords keys : List KeyEvent) (i : ℕ) (here : Bool) (first old : Place) → i < length chords → are_alike (take i chords) keys ≡ here
    → (here ≡ true → first.number ≡ old.number)
    → cond here (record { number = first.number; begun = true }) (marked_to chords i old keys) ≡ marked_to chords (i + 1) old keys
one_marked chords keys i true first old l is number =
    let at = both_here i (goes_beyond chords keys) (length keys) (sym (front_alike chords keys i l) ∙ is) in
    ap (λ n. record { number = n; begun = true }) (number refl) ∙ ap (λ b. record { number = old.number; begun = b }) (or_true old.begun ∙ ap (λ b. old.begun || b) (sym at))
one_marked chords keys i false first old l is number =
    let at = neither_here i (goes_beyond chords keys) (length keys) (sym (front_alike chords keys i l) ∙ is) in
    ap (λ b. record { number = old.number; begun = old.begun || b }) at

-- All fronts are marked, and the list has its number.
pub all_marked : (chords keys : List KeyEvent) (number : ℕ) (here : Bool) (whole old : Place) → are_alike chords keys ≡ here
    → (here ≡ true → whole.begun ≡ (marked_to chords (length chords) old keys).begun)
    → cond here (record { number = Some number; begun = whole.begun }) (marked_to chords (length chords) old keys) ≡ with_list chords number old keys
all_marked chords keys number true whole old is begun =
    ap (λ b. record { number = Some number; begun = b }) (begun refl ∙ ap (λ b. old.begun || b) (sym (beyond_fewer chords keys)))
    ∙ ap (λ c. record { number = cond c (Some number) old.number; begun = old.begun || goes_beyond chords keys }) (sym is)
all_marked chords keys number false whole old is begun =
    ap (λ b. record { number = old.number; begun = old.begun || b }) (sym (beyond_fewer chords keys))
    ∙ ap (λ c. record { number = cond c (Some number) old.number; begun = old.begun || goes_beyond chords keys }) (sym is)

-- ---- the numbers of lists
number_at : (n : ℕ) (here : Bool) (rest : Option ℕ) (any : Bool) → is_some rest ≡ any → is_some (cond here (Some n) rest) ≡ (here || any)
number_at n true rest any h = refl
number_at n false rest any h = h

-- A list of just these chords is bound exactly if it has a number.
pub has_number : (n : ℕ) (bound : Bound) (keys : List KeyEvent) → is_some (number_from n bound keys) ≡ list_any (λ other. are_same other keys) bound
has_number n [] keys = refl
has_number n (chords ∷ bound) keys =
    number_at n (are_same chords keys) (number_from (suc n) bound keys) (list_any (λ other. are_same other keys) bound) (has_number (suc n) bound keys)

last_at : (n : ℕ) (here : Bool) (rest : Option ℕ) → is_some (cond here (Some n) rest) ≡ false → (more last : Option ℕ) → (is_some rest ≡ false → more ≡ last) → cond here (Some n) more ≡ last
last_at n true rest none more last h = grind (arith, none)
last_at n false rest none more last h = h none

-- The number of a list that is bound after all others.
pub number_last : (n : ℕ) (bound : Bound) (chords keys : List KeyEvent) → is_some (number_from n bound keys) ≡ false
    → number_from n (bound ++ chords ∷ []) keys ≡ cond (are_same chords keys) (Some (n + length bound)) None
number_last n [] chords keys none = ap (λ m. cond (are_same chords keys) (Some m) None) (omega arith)
number_last n (first ∷ bound) chords keys none =
    let on : suc n + length bound ≡ n + suc (length bound) = omega arith in
    last_at n (are_same first keys) (number_from (suc n) bound keys) none (number_from (suc n) (bound ++ chords ∷ []) keys) (cond (are_same chords keys) (Some (suc n + length bound)) None)
    (λ h. number_last (suc n) bound chords keys h) ∙ ap (λ m. cond (are_same chords keys) (Some m) None) on

-- The number of another list stays.
pub number_kept : (n : ℕ) (bound : Bound) (chords keys : List KeyEvent) → are_same chords keys ≡ false → number_from n (bound ++ chords ∷ []) keys ≡ number_from n bound keys
number_kept n [] chords keys other = ap (λ b. cond b (Some n) None) other
number_kept n (first ∷ bound) chords keys other = ap (cond (are_same first keys) (Some n)) (number_kept (suc n) bound chords keys other)

begun_more : (p q : Bool) → (p || (q || false)) ≡ (p || q)
begun_more true q = refl
begun_more false true = refl
begun_more false false = refl

bound_at : (bound : Bound) (chords keys : List KeyEvent) (here : Bool) → are_alike chords keys ≡ here → (here ≡ true → is_some (number_from 0 bound keys) ≡ false)
    → cond here (Some (length bound)) (number_from 0 bound keys) ≡ number_from 0 (bound ++ chords ∷ []) keys
bound_at bound chords keys true is none =
    let zero_more : 0 + length bound ≡ length bound = omega arith in
    sym (number_last 0 bound chords keys (none refl) ∙ ap (λ b. cond b (Some (0 + length bound)) None) (sym (alike_same chords keys) ∙ is) ∙ ap Some zero_more)
bound_at bound chords keys false is none = sym (number_kept 0 bound chords keys (sym (alike_same chords keys) ∙ is))

-- A table with one more list.
pub right_more : {S : Type 0} (bound : Bound) (chords : List KeyEvent) (old new : HashMap (List KeyEvent) Place S) → HasPlaces bound old → list_any (λ other. are_same other chords) bound ≡ false
    → BindsAt chords (length bound) old new → HasPlaces (bound ++ chords ∷ []) new
right_more bound chords old new right_places free binds keys =
    let none = λ (same : are_alike chords keys ≡ true).
    ap (λ (p : Place). is_some p.number) (sym (right_places keys) ∙ sym (place_alike old chords keys same) ∙ right_places chords) ∙ has_number 0 bound chords ∙ free in
    binds keys ∙ ap (λ p. with_list chords (length bound) p keys) (right_places keys)
    ∙ ap (λ n. record { number = n; begun = is_begun bound keys || goes_beyond chords keys }) (bound_at bound chords keys (are_alike chords keys) refl none)
    ∙ ap (λ b. record { number = number_from 0 (bound ++ chords ∷ []) keys; begun = b })
    (sym (list_any-append (λ other. goes_beyond other keys) bound (chords ∷ []) ∙ begun_more (is_begun bound keys) (goes_beyond chords keys)))

-- ---- without a table
pub right_some : {S : Type 0} (bound : Bound) (places : Option (HashMap (List KeyEvent) Place S)) (table : HashMap (List KeyEvent) Place S) → places ≡ Some table → HasPlacesOf bound places → HasPlaces bound table
right_some bound places table is right_places = subst (HasPlacesOf bound) is right_places

pub right_none : {S : Type 0} (bound : Bound) (places : Option (HashMap (List KeyEvent) Place S)) → places ≡ None → HasPlacesOf bound places → bound ≡ []
right_none bound places is right_places = subst (HasPlacesOf bound) is right_places

-- The lists of one more binding.
pub bound_more : {A : Type 0} (bs : List (BoundList A)) (b : BoundList A) → bound_of (map binding bs) ++ b.chords.items ∷ [] ≡ bound_of (map binding (bs ++ b ∷ []))
bound_more [] b = refl
bound_more (first ∷ bs) b = ap (λ rest. first.chords.items ∷ rest) (bound_more bs b)
