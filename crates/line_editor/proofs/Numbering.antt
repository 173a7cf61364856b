-- Lines that are looked for, by their numbers.
use Rattle.std.proofs.Common.{◌≡◌, ℕ, ◌+◌, ◌-◌, ◌<◌, ◌≤◌, true, false, List, [], ◌∷◌, ◌++◌, length, drop, refl, sym, subst, ap, ◌∙◌, inl, inr, arith, add-one}
use Rattle.std.proofs.lemmas.Bool.{cases_Bool, eq-eqb, eqb-false, eqb-true, false≢true}
use Rattle.std.specs.Prelude.{Bool, ◌⊎◌, Option, Some, None, IfSome, MatchOption, is_some, ◌==◌, ◌||◌, if◌then◌else◌, zero, suc, slice_get}
use Rattle.std.specs.List.{AllByRecursion}
use Rattle.line_editor.specs.Laws.{FindsNearest, FindsNewer, FindsPiece, IsNearest, IsNearestNewer}
use Rattle.line_editor.specs.Seeking.{contains, first_number, is_wanted, last_number}
use Rattle.line_editor.specs.Splits.{Split, line_text}
use Rattle.line_editor.specs.States.{behind_front}
use Rattle.line_editor.proofs.Ringing.{behind-front}

module _ (is : List ℕ → Bool) where
  -- Back from a line, one after another.
  pub number-here : (lines : List Split) (n : ℕ) → 0 < n → true ≡ is_wanted is (slice_get lines (n - 1)) → last_number is n lines ≡ Some n
  number-here lines zero some h = absurd (omega (arith, some))
  number-here lines (suc n) some h =
      let e : suc n - 1 ≡ n = omega arith in
      let P : ℕ → Type 0 = λ k. true ≡ is_wanted is (slice_get lines k) in
      rw (sym (subst P e h)) (ap Some (add-one n))

  pub number-past : (lines : List Split) (n : ℕ) → 0 < n → false ≡ is_wanted is (slice_get lines (n - 1)) → last_number is n lines ≡ last_number is (n - 1) lines
  number-past lines zero some h = absurd (omega (arith, some))
  number-past lines (suc n) some h =
      let e : suc n - 1 ≡ n = omega arith in
      let P : ℕ → Type 0 = λ k. false ≡ is_wanted is (slice_get lines k) in
      rw (sym (subst P e h)) (ap (λ k. last_number is k lines) (sym e))

  -- Forward from a line.
  line-at : (lines : List Split) (at : ℕ) → at < length lines → (d : Split) × (drop at lines ≡ d ∷ drop (at + 1) lines) × (slice_get lines at ≡ Some d)
  line-at [] at lt = absurd (omega (arith, lt))
  line-at (d ∷ lines) zero lt = (d, refl, refl)
  line-at (d ∷ lines) (suc at) lt =
      let rest = line-at lines at (omega (arith, lt)) in
      let e : suc (at + 1) ≡ suc at + 1 = omega arith in
      (rest.0, rest.1 ∙ ap (λ l. rest.0 ∷ l) (ap (λ n. drop n (d ∷ lines)) e), rest.2)

  module _ (lines : List Split) (at : ℕ) (lt : at < length lines) where
    pub first-here : true ≡ is_wanted is (slice_get lines at) → first_number is at (drop at lines) ≡ Some (at + 1)
    first-here h =
        let d = line-at lines at lt in
        let here : is (line_text d.0) ≡ true = sym (h ∙ ap (is_wanted is) d.2) in
        ap (first_number is at) d.1 ∙ (rw here refl)

    pub first-past : false ≡ is_wanted is (slice_get lines at) → first_number is at (drop at lines) ≡ first_number is (at + 1) (drop (at + 1) lines)
    first-past h =
        let d = line-at lines at lt in
        let past : is (line_text d.0) ≡ false = sym (h ∙ ap (is_wanted is) d.2) in
        ap (first_number is at) d.1 ∙ (rw past refl)

  pub first-none : (lines : List Split) (at : ℕ) → length lines ≤ at → first_number is at (drop at lines) ≡ None
  first-none lines at le = ap (first_number is at) (none lines at le)
    where
      none : (lines : List Split) (at : ℕ) → length lines ≤ at → drop at lines ≡ []
      none [] zero le = refl
      none [] (suc at) le = refl
      none (d ∷ lines) zero le = absurd (omega (arith, le))
      none (d ∷ lines) (suc at) le = none lines at (omega (arith, le))

-- ---- what is found

module _ (is : List ℕ → Bool) (passed : ℕ) (d : Split) (lines : List Split) where
  nearest-behind : (o : Option ℕ) → is (line_text d) ≡ false
      → MatchOption o (AllByRecursion (λ (x : Split). is (line_text x) ≡ false) lines) (λ n. IsNearest is (passed + 1) n lines)
      → MatchOption o (AllByRecursion (λ (x : Split). is (line_text x) ≡ false) (d ∷ lines)) (λ n. IsNearest is passed n (d ∷ lines))
  nearest-behind None past h = (past, h)
  nearest-behind (Some n) past h = record {
    front = d ∷ h.front;
    line = h.line;
    back = h.back;
    are = ap (λ l. d ∷ l) h.are;
    count = omega (arith, h.count);
    before = (past, h.before);
    here = h.here;
  }

  nearest-by : (b : Bool) → is (line_text d) ≡ b
      → MatchOption (first_number is (passed + 1) lines) (AllByRecursion (λ (x : Split). is (line_text x) ≡ false) lines) (λ n. IsNearest is (passed + 1) n lines)
      → MatchOption (if b then Some (passed + 1) else first_number is (passed + 1) lines) (AllByRecursion (λ (x : Split). is (line_text x) ≡ false) (d ∷ lines)) (λ n. IsNearest is passed n (d ∷ lines))
  nearest-by true here h = record { front = []; line = d; back = lines; are = refl; count = omega arith; before = tt; here = here }
  nearest-by false past h = nearest-behind (first_number is (passed + 1) lines) past h

pub finds_nearest : (is : List ℕ → Bool) (passed : ℕ) (lines : List Split) → FindsNearest is passed lines
finds_nearest is passed [] = tt
finds_nearest is passed (d ∷ lines) = nearest-by is passed d lines (is (line_text d)) refl (finds_nearest is (passed + 1) lines)

-- ---- pieces of a text

or_cases : (a b : Bool) → (a || b) ≡ true → (a ≡ true) ⊎ (b ≡ true)
or_cases true b h = inl refl
or_cases false b h = inr h

or_right : (a b : Bool) → b ≡ true → (a || b) ≡ true
or_right true b h = refl
or_right false b h = h

front-there : (front back : List ℕ) → behind_front front (front ++ back) ≡ Some back
front-there [] back = refl
front-there (c ∷ front) back = rw (eq-eqb c c refl) (front-there front back)

is-there : {X : Type 0} (o : Option X) → is_some o ≡ true → (x : X) × (o ≡ Some x)
is-there (Some x) h = (x, refl)
is-there None h = absurd (false≢true h)

begins-so : (pattern text : List ℕ) → is_some (behind_front pattern text) ≡ true → (back : List ℕ) × (text ≡ pattern ++ back)
begins-so pattern text h =
    let rest = is-there (behind_front pattern text) h in
    let P : Option (List ℕ) → Type 0 = λ o. IfSome o (λ back. text ≡ pattern ++ back) in
    (rest.0, subst P rest.1 (behind-front pattern text))

piece-found : (pattern text : List ℕ) → contains pattern text ≡ true → (front : List ℕ) × (back : List ℕ) × (text ≡ front ++ (pattern ++ back))
piece-found pattern [] h = let rest = begins-so pattern [] h in ([], rest.0, rest.1)
piece-found pattern (c ∷ text) h =
    elim (or_cases (is_some (behind_front pattern (c ∷ text))) (contains pattern text) h) [
      | inl first ↦ let rest = begins-so pattern (c ∷ text) first in ([], rest.0, rest.1)
      | inr later ↦ let rest = piece-found pattern text later in (c ∷ rest.0, rest.1, ap (λ t. c ∷ t) rest.2)
    ]

piece-there : (pattern front back : List ℕ) → contains pattern (front ++ (pattern ++ back)) ≡ true
piece-there [] [] [] = refl
piece-there [] [] (c ∷ back) = refl
piece-there (c ∷ pattern) [] back = rw (front-there (c ∷ pattern) back) refl
piece-there pattern (c ∷ front) back = or_right (is_some (behind_front pattern (c ∷ (front ++ (pattern ++ back))))) _ (piece-there pattern front back)

pub finds_piece : (pattern text : List ℕ) → FindsPiece pattern text
finds_piece pattern text = record {
  found = piece-found pattern text;
  missed = λ none front back e. false≢true (sym none ∙ ap (contains pattern) e ∙ piece-there pattern front back);
}

-- ---- what is found forward

wanted-there : (is : List ℕ → Bool) (o : Option Split) → is_wanted is o ≡ true → (d : Split) × (o ≡ Some d) × (is (line_text d) ≡ true)
wanted-there is None h = absurd (false≢true h)
wanted-there is (Some d) h = (d, refl, h)

module _ (is : List ℕ → Bool) (n : ℕ) (lines : List Split) where
  -- The last of the lines, and those before it.
  one-more : is_wanted is (slice_get lines n) ≡ false → (k : ℕ) → k < suc n → (k < n → is_wanted is (slice_get lines k) ≡ false)
      → is_wanted is (slice_get lines k) ≡ false
  one-more past k lt h =
      let P : ℕ → Type 0 = λ i. is_wanted is (slice_get lines i) ≡ false in
      elim (cases_Bool (k == n)) [
        | inl same ↦ subst P (sym (eqb-true k n same)) past
        | inr other ↦ h (omega (arith, lt, eqb-false k n other))
      ]

  newer-behind : (o : Option ℕ) → is_wanted is (slice_get lines n) ≡ false
      → MatchOption o ((k : ℕ) → k < n → is_wanted is (slice_get lines k) ≡ false) (λ number. IsNearestNewer is n number lines)
      → MatchOption o ((k : ℕ) → k < suc n → is_wanted is (slice_get lines k) ≡ false) (λ number. IsNearestNewer is (suc n) number lines)
  newer-behind None past h = λ k lt. one-more past k lt (h k)
  newer-behind (Some number) past h = record {
    line = h.line;
    at = h.at;
    first = h.first;
    within = omega (arith, h.within);
    here = h.here;
    between = λ k le lt. one-more past k lt (h.between k le);
  }

  newer-by : (b : Bool) → is_wanted is (slice_get lines n) ≡ b
      → MatchOption (last_number is n lines) ((k : ℕ) → k < n → is_wanted is (slice_get lines k) ≡ false) (λ number. IsNearestNewer is n number lines)
      → MatchOption (if b then Some (n + 1) else last_number is n lines) ((k : ℕ) → k < suc n → is_wanted is (slice_get lines k) ≡ false) (λ number. IsNearestNewer is (suc n) number lines)
  newer-by true here h =
      let d = wanted-there is (slice_get lines n) here in
      let e : (n + 1) - 1 ≡ n = omega arith in
      record {
        line = d.0;
        at = ap (slice_get lines) e ∙ d.1;
        first = omega arith;
        within = omega arith;
        here = d.2;
        between = λ k le lt. absurd (omega (arith, le, lt));
      }
  newer-by false past h = newer-behind (last_number is n lines) past h

pub finds_newer : (is : List ℕ → Bool) (n : ℕ) (lines : List Split) → FindsNewer is n lines
finds_newer is zero lines = λ k lt. absurd (omega (arith, lt))
finds_newer is (suc n) lines = newer-by is n lines (is_wanted is (slice_get lines n)) refl (finds_newer is n lines)
