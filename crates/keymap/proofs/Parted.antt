-- Keys are cut into their cut, and into nothing else.
use Rattle.std.proofs.Common.{◌≡◌, ℕ, zero, suc, ◌+◌, ◌-◌, ◌<◌, ◌≤◌, true, false, cond, nat_lt, List, [], ◌∷◌, ◌++◌, length, map, take, drop, Option, Some, None, refl, sym, ap, ◌∙◌, subst, arith}
use Rattle.std.specs.List.{slice_get}
use Rattle.std.proofs.lemmas.Bool.Decides.{nat_tests}
use Rattle.crossterm_types.specs.declared.event.key.KeyEvent.{KeyEvent}
use Rattle.keymap.specs.Bindings.{AreShort}
use Rattle.keymap.specs.declared.inside.Match.{Match}
use Rattle.keymap.specs.Outcomes.{SeenOutcome, Action, Key, Event}
use Rattle.keymap.specs.Chords.{Bound, is_front, longer_match, longest_from, longest}
use Rattle.keymap.specs.Cut.{cut_keys, outcome_of, outcome_there, more_of, places_after}
use Rattle.keymap.specs.Parts.{Part, keys_of_parts, IsLongest, IsUnbound, IsOutcomeOf, AreRight, IsOnlyCut}
use Rattle.keymap.proofs.Cutting.{first}

-- ---- the longest list

-- What is found among lists whose numbers count from n.
record FoundAt (n : ℕ) (bound : Bound) (keys : List KeyEvent) (m : Match) : Type 0 where
  place : ℕ
  number : m.number ≡ n + place
  longest : IsLongest bound keys place m.count

abbrev Found : ℕ → Bound → List KeyEvent → Option Match → Type 0
Found n bound keys None = IsUnbound bound keys
Found n bound keys (Some m) = FoundAt n bound keys m

-- The first list isn't one that the keys begin with.
unbound_on : (cs : List KeyEvent) (bound : Bound) (keys : List KeyEvent) → is_front cs keys ≡ false → IsUnbound bound keys → IsUnbound (cs ∷ bound) keys
unbound_on cs bound keys f h zero other at = (let same : cs ≡ other = cc in ap (λ l. is_front l keys) (sym same) ∙ f)
unbound_on cs bound keys f h (suc i) other at = h i other at

-- A list before those that have the longest one: the keys don't begin with it, or it is shorter.
abbrev Below : List KeyEvent → List KeyEvent → ℕ → Type 0
Below cs keys count = is_front cs keys ≡ true → length cs < count

later_longest : (cs : List KeyEvent) (bound : Bound) (keys : List KeyEvent) (i count : ℕ) → Below cs keys count → IsLongest bound keys i count → IsLongest (cs ∷ bound) keys (suc i) count
later_longest cs bound keys i count below l = record {
  chords = l.chords;
  is_bound = l.is_bound;
  counts = l.counts;
  begins = l.begins;
  none_longer = none;
  is_first = before;
}
  where
    none : (j : ℕ) (other : List KeyEvent) → slice_get (cs ∷ bound) j ≡ Some other → is_front other keys ≡ true → length other ≤ count
    none zero other at f = (let same : cs ≡ other = cc in let b = below (ap (λ x. is_front x keys) same ∙ f) in let e = ap length same in omega arith)
    none (suc j) other at f = l.none_longer j other at f

    before : (j : ℕ) (other : List KeyEvent) → slice_get (cs ∷ bound) j ≡ Some other → is_front other keys ≡ true → j < suc i → length other < count
    before zero other at f h = (let same : cs ≡ other = cc in let b = below (ap (λ x. is_front x keys) same ∙ f) in let e = ap length same in omega arith)
    before (suc j) other at f h = l.is_first j other at f (omega (arith, h))

here_longest : (cs : List KeyEvent) (bound : Bound) (keys : List KeyEvent) → is_front cs keys ≡ true
    → ((i : ℕ) (other : List KeyEvent) → slice_get bound i ≡ Some other → is_front other keys ≡ true → length other ≤ length cs) → IsLongest (cs ∷ bound) keys 0 (length cs)
here_longest cs bound keys f h = record {
  chords = cs;
  is_bound = refl;
  counts = refl;
  begins = f;
  none_longer = none;
  is_first = λ j other at g l. absurd (omega (arith, l));
}
  where
    none : (j : ℕ) (other : List KeyEvent) → slice_get (cs ∷ bound) j ≡ Some other → is_front other keys ≡ true → length other ≤ length cs
    none zero other at g = (let same : cs ≡ other = cc in let e = ap length same in omega arith)
    none (suc j) other at g = h j other at g

found_front : (n : ℕ) (cs : List KeyEvent) (bound : Bound) (keys : List KeyEvent) (r : Option Match) → is_front cs keys ≡ true → Found (suc n) bound keys r
    → Found n (cs ∷ bound) keys (longer_match (Some (record { number = n; count = length cs })) r)
found_front n cs bound keys None f h = record {
  place = 0;
  number = omega arith;
  longest = here_longest cs bound keys f (λ i other at g. absurd (let n = h i other at in cc));
}
found_front n cs bound keys (Some m) f h =
    elim (nat_lt (length cs) m.count) as (λ t. nat_lt (length cs) m.count ≡ t → Found n (cs ∷ bound) keys (cond t (Some m) (Some (record { number = n; count = length cs })))) [
      | true ↦ λ t.
          let l : length cs < m.count = grind (arith, nat_tests) in
          record { place = suc h.place; number = omega (arith, h.number); longest = later_longest cs bound keys h.place m.count (λ _. l) h.longest }
      | false ↦ λ t.
          let l : m.count ≤ length cs = grind (arith, nat_tests) in
          record { place = 0; number = omega arith; longest = here_longest cs bound keys f (λ i other at g. omega (arith, h.longest.none_longer i other at g, l)) }
    ] refl

found_other : (n : ℕ) (cs : List KeyEvent) (bound : Bound) (keys : List KeyEvent) (r : Option Match) → is_front cs keys ≡ false → Found (suc n) bound keys r → Found n (cs ∷ bound) keys r
found_other n cs bound keys None f h = unbound_on cs bound keys f h
found_other n cs bound keys (Some m) f h =
    record { place = suc h.place; number = omega (arith, h.number); longest = later_longest cs bound keys h.place m.count (λ g. absurd (cc)) h.longest }

found : (n : ℕ) (bound : Bound) (keys : List KeyEvent) → Found n bound keys (longest_from n bound keys)
found n [] keys = λ i chords at. absurd (cc)
found n (cs ∷ bound) keys =
    let r = longest_from (suc n) bound keys in
    elim (is_front cs keys) as (λ t. is_front cs keys ≡ t → Found n (cs ∷ bound) keys (longer_match (cond t (Some (record { number = n; count = length cs })) None) r)) [
      | true ↦ λ f. found_front n cs bound keys r f (found (suc n) bound keys)
      | false ↦ λ f. found_other n cs bound keys r f (found (suc n) bound keys)
    ] refl

-- There is one longest list.
one_count : (bound : Bound) (keys : List KeyEvent) (a b c d : ℕ) → IsLongest bound keys a c → IsLongest bound keys b d → c ≡ d
one_count bound keys a b c d l r =
    omega (arith, l.counts, r.counts, l.none_longer b r.chords r.is_bound r.begins, r.none_longer a l.chords l.is_bound l.begins)

not_before : (bound : Bound) (keys : List KeyEvent) (a b c d : ℕ) → IsLongest bound keys a c → IsLongest bound keys b d → b ≤ a
not_before bound keys a b c d l r =
    elim (nat_lt a b) as (λ t. nat_lt a b ≡ t → b ≤ a) [
      | true ↦ λ t.
          let less : a < b = grind (arith, nat_tests) in
          absurd (omega (arith, one_count bound keys a b c d l r, l.counts, r.is_first a l.chords l.is_bound l.begins less))
      | false ↦ λ t. grind (arith, nat_tests)
    ] refl

one_number : (bound : Bound) (keys : List KeyEvent) (a b c d : ℕ) → IsLongest bound keys a c → IsLongest bound keys b d → a ≡ b
one_number bound keys a b c d l r = omega (arith, not_before bound keys a b c d l r, not_before bound keys b a d c r l)

abbrev match_as : ℕ → ℕ → Option Match
match_as number count = Some (record { number = number; count = count })

-- What is longest is what is found.
longest_is : (bound : Bound) (keys : List KeyEvent) (number count : ℕ) → IsLongest bound keys number count → (m : Option Match) → Found 0 bound keys m → m ≡ match_as number count
longest_is bound keys number count l None h = absurd (let n = h number l.chords l.is_bound in let b = l.begins in cc)
longest_is bound keys number count l (Some m) h =
    let e : m.number ≡ number = omega (arith, h.number, one_number bound keys h.place number m.count count h.longest l) in
    let f : m.count ≡ count = one_count bound keys h.place number m.count count h.longest l in
    ap (λ n. match_as n m.count) e ∙ ap (match_as number) f

unbound_is : (bound : Bound) (keys : List KeyEvent) → IsUnbound bound keys → (m : Option Match) → Found 0 bound keys m → m ≡ None
unbound_is bound keys u None h = refl
unbound_is bound keys u (Some m) h = absurd (let n = u h.place h.longest.chords h.longest.is_bound in let b = h.longest.begins in cc)

-- ---- parts

dropped : (front back : List KeyEvent) → drop (length front) (front ++ back) ≡ back
dropped [] back = refl
dropped (k ∷ front) back = dropped front back

halves : (n : ℕ) (keys : List KeyEvent) → take n keys ++ drop n keys ≡ keys
halves zero keys = refl
halves (suc n) [] = refl
halves (suc n) (k ∷ keys) = ap (λ l. k ∷ l) (halves n keys)

taken_length : (n : ℕ) (keys : List KeyEvent) → n ≤ length keys → length (take n keys) ≡ n
taken_length zero keys h = refl
taken_length (suc n) [] h = absurd (omega (arith, h))
taken_length (suc n) (k ∷ keys) h = ap suc (taken_length n keys (omega (arith, h)))

some_chords : (bound : Bound) (i : ℕ) (chords : List KeyEvent) → AreShort bound → slice_get bound i ≡ Some chords → 0 < length chords
some_chords [] i chords s at = absurd (cc)
some_chords (cs ∷ bound) zero chords s at = (let same : cs ≡ chords = cc in let e = ap length same in let h = s.0.0 in omega arith)
some_chords (cs ∷ bound) (suc i) chords s at = some_chords bound i chords s.1 at

-- The cut begins with the outcome of a part.
cut_part : (bound : Bound) → AreShort bound → (outcome : SeenOutcome) (part rest : List KeyEvent) → IsOutcomeOf bound outcome part rest → cut_keys bound (part ++ rest) ≡ outcome ∷ cut_keys bound rest
cut_part bound s (Event e) part rest h = absurd h
cut_part bound s (Action number) [] rest h = absurd (omega (arith, h.counts, some_chords bound number h.chords s h.is_bound))
cut_part bound s (Action number) (k ∷ ks) rest h =
    let m = longest_is bound (k ∷ (ks ++ rest)) number (suc (length ks)) h (longest bound (k ∷ (ks ++ rest))) (found 0 bound (k ∷ (ks ++ rest))) in
    let one : suc (length ks) - 1 ≡ length ks = omega arith in
    (first bound k (ks ++ rest)).is_cut ∙ ap (λ m. outcome_of k m ∷ cut_keys bound (drop (more_of m) (ks ++ rest))) m
    ∙ ap (λ n. Action number ∷ cut_keys bound (drop n (ks ++ rest))) one ∙ ap (λ l. Action number ∷ cut_keys bound l) (dropped ks rest)
cut_part bound s (Key key) part rest h =
    let m = unbound_is bound (key ∷ rest) (subst (λ (l : List KeyEvent). IsUnbound bound (l ++ rest)) h.0 h.1) (longest bound (key ∷ rest)) (found 0 bound (key ∷ rest)) in
    ap (λ l. cut_keys bound (l ++ rest)) h.0 ∙ (first bound key rest).is_cut ∙ ap (λ m. outcome_of key m ∷ cut_keys bound (drop (more_of m) rest)) m

cut_parts : (bound : Bound) → AreShort bound → (parts : List Part) → AreRight bound parts → map (λ part. part.outcome) parts ≡ cut_keys bound (keys_of_parts parts)
cut_parts bound s [] r = refl
cut_parts bound s (part ∷ parts) r = ap (λ l. part.outcome ∷ l) (cut_parts bound s parts r.1) ∙ sym (cut_part bound s part.outcome part.keys (keys_of_parts parts) r.0)

-- The outcome at a place is that of the keys that belong to it.
represents_there : (bound : Bound) → AreShort bound → (k : KeyEvent) (ks rest : List KeyEvent) (m : Option Match) → Found 0 bound (k ∷ ks) m → more_of m ≤ length ks → take (more_of m) ks ++ rest ≡ ks
    → IsOutcomeOf bound (outcome_of k m) (k ∷ take (more_of m) ks) rest
represents_there bound s k ks rest None h w e = (refl, subst (λ (l : List KeyEvent). IsUnbound bound (k ∷ l)) (sym e) h)
represents_there bound s k ks rest (Some m) h w e =
    let some = some_chords bound h.place h.longest.chords s h.longest.is_bound in
    let at : h.place ≡ m.number = omega (arith, h.number) in
    let count : m.count ≡ suc (length (take (m.count - 1) ks)) = omega (arith, some, h.longest.counts, taken_length (m.count - 1) ks w) in
    let l : IsLongest bound (k ∷ ks) m.number m.count = subst (λ (i : ℕ). IsLongest bound (k ∷ ks) i m.count) at h.longest in
    let j : IsLongest bound (k ∷ ks) m.number (suc (length (take (m.count - 1) ks))) = subst (λ (c : ℕ). IsLongest bound (k ∷ ks) m.number c) count l in
    subst (λ (t : List KeyEvent). IsLongest bound (k ∷ t) m.number (suc (length (take (m.count - 1) ks)))) (sym e) j

-- Parts of the keys after the first n, which belong to a place before.
record Parted (n : ℕ) (bound : Bound) (ks : List KeyEvent) : Type 0 where
  parts : List Part
  keys_are : keys_of_parts parts ≡ drop n ks
  outcomes_are : map (outcome_there bound) (places_after n bound ks) ≡ map (λ part. part.outcome) parts
  right : AreRight bound parts

parted : (n : ℕ) (bound : Bound) → AreShort bound → (ks : List KeyEvent) → n ≤ length ks → Parted n bound ks
parted zero bound s [] h = record { parts = []; keys_are = refl; outcomes_are = refl; right = tt }
parted (suc n) bound s [] h = absurd (omega (arith, h))
parted (suc n) bound s (k ∷ ks) h = let r = parted n bound s ks (omega (arith, h)) in record { parts = r.parts; keys_are = r.keys_are; outcomes_are = r.outcomes_are; right = r.right }
parted zero bound s (k ∷ ks) h =
    let m = longest bound (k ∷ ks) in
    let w : more_of m ≤ length ks = (first bound k ks).within in
    let r = parted (more_of m) bound s ks w in
    let e : take (more_of m) ks ++ keys_of_parts r.parts ≡ ks = ap (λ l. take (more_of m) ks ++ l) r.keys_are ∙ halves (more_of m) ks in
    let part : Part = record { keys = k ∷ take (more_of m) ks; outcome = outcome_of k m } in
    record {
      parts = part ∷ r.parts;
      keys_are = ap (λ l. k ∷ l) e;
      outcomes_are = ap (λ l. outcome_of k m ∷ l) r.outcomes_are;
      right = (represents_there bound s k ks (keys_of_parts r.parts) m (found 0 bound (k ∷ ks)) w e, r.right);
    }

pub only_cut : (bound : Bound) (keys : List KeyEvent) → AreShort bound → IsOnlyCut bound keys
only_cut bound keys s = record {
  is_cut = (let r = parted 0 bound s keys (omega arith) in record { parts = r.parts; keys_are = sym r.keys_are; outcomes_are = r.outcomes_are; right = r.right });
  is_only = λ outcomes c. c.outcomes_are ∙ cut_parts bound s c.parts c.right ∙ ap (cut_keys bound) (sym c.keys_are);
}
