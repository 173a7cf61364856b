-- Lines that were left have places of their own.
use Rattle.std.proofs.Common.{◌≡◌, ℕ, ◌+◌, ◌<◌, ◌≤◌, false, List, [], ◌∷◌, length, refl, sym, ap, ◌∙◌, inl, inr, arith}
use Rattle.std.proofs.lemmas.Bool.{cases_Bool, eq-eqb, eqb-false, eqb-true, ne_eqb, or_from, or_parts, true≢false}
use Rattle.std.specs.Prelude.{Option, Some, None, IfSome, ◌==◌, if◌then◌else◌, slice_get, suc, zero}
use Rattle.line_editor.specs.Bounded.{ArePlaces, is_among, places_of}
use Rattle.line_editor.specs.Splits.{Split, line_text}
use Rattle.line_editor.specs.States.{LeftLine, first_with, last_with, left_but, other_rest, rest_at, rest_or}

-- The places without the first that is this one.
abbrev but : ℕ → List ℕ → List ℕ
but n [] = []
but n (m ∷ places) = if m == n then places else m ∷ but n places

left-but : (n : ℕ) (left : List LeftLine) → places_of (left_but n left) ≡ but n (places_of left)
left-but n [] = refl
left-but n (x ∷ left) = elim (cases_Bool (x.place == n)) [ inl here ↦ rw here refl | inr other ↦ rw other (ap (λ l. x.place ∷ l) (left-but n left)) ]

-- Fewer places.
among-but : (k n : ℕ) (places : List ℕ) → is_among k places ≡ false → is_among k (but n places) ≡ false
among-but k n [] h = refl
among-but k n (m ∷ places) h =
    let parts = or_parts (m == k) (is_among k places) h in
    elim (cases_Bool (m == n)) [ inl here ↦ rw here parts.1 | inr other ↦ rw other (or_from (m == k) (is_among k (but n places)) parts.0 (among-but k n places parts.1)) ]

places-but : (count n : ℕ) (places : List ℕ) → ArePlaces count places → ArePlaces count (but n places)
places-but count n [] h = tt
places-but count n (m ∷ places) h =
    elim (cases_Bool (m == n)) [ inl here ↦ rw here h.2 | inr other ↦ rw other (h.0, among-but m n places h.1, places-but count n places h.2) ]

gone : (count n : ℕ) (places : List ℕ) → ArePlaces count places → is_among n (but n places) ≡ false
gone count n [] h = refl
gone count n (m ∷ places) h =
    elim (cases_Bool (m == n)) [
      | inl here ↦ rw here (ap (λ k. is_among k places) (sym (eqb-true m n here)) ∙ h.1)
      | inr other ↦ rw other (or_from (m == n) (is_among n (but n places)) other (gone count n places h.2))
    ]

-- Another place is shown, and the one that was shown is among those that were left.
pub places-moved : (count back place : ℕ) (left : List LeftLine) → place ≤ count → (place == back) ≡ false → ArePlaces count (back ∷ places_of left)
    → ArePlaces count (place ∷ back ∷ places_of (left_but place left))
places-moved count back place left le other h =
    let ne : (back == place) ≡ false = ne_eqb back place (λ same. true≢false (sym (eq-eqb place back (sym same)) ∙ other)) in
    let e = left-but place left in
    let rest : ArePlaces count (places_of (left_but place left)) = rw e (places-but count place (places_of left) h.2) in (
      le,
      or_from (back == place) (is_among place (places_of (left_but place left))) ne (ap (is_among place) e ∙ gone count place (places_of left) h.2),
      (h.0, ap (is_among back) e ∙ among-but back place (places_of left) h.1, rest),
    )

-- ---- there are no more places than lines, and one

long : (n : ℕ) (places : List ℕ) → length places ≤ length (but n places) + 1
long n [] = omega arith
long n (m ∷ places) = elim (cases_Bool (m == n)) [ inl here ↦ rw here (omega arith) | inr other ↦ rw other (omega (arith, long n places)) ]

lower : (count : ℕ) (places : List ℕ) → ArePlaces (suc count) places → is_among (suc count) places ≡ false → ArePlaces count places
lower count [] h f = tt
lower count (m ∷ places) h f =
    let parts = or_parts (m == suc count) (is_among (suc count) places) f in
    (omega (arith, h.0, eqb-false m (suc count) parts.0), h.1, lower count places h.2 parts.1)

few : (count : ℕ) (places : List ℕ) → ArePlaces count places → length places ≤ suc count
few zero [] h = omega arith
few zero (m ∷ []) h = omega arith
few zero (m ∷ n ∷ places) h =
    let parts = or_parts (n == m) (is_among m places) h.1 in
    absurd (eqb-false n m parts.0 (omega (arith, h.0, h.2.0)))
few (suc count) places h =
    let fewer = but (suc count) places in
    let rest = few count fewer (lower count fewer (places-but (suc count) (suc count) places h) (gone (suc count) (suc count) places h)) in
    omega (arith, rest, long (suc count) places)

length-places : (left : List LeftLine) → length (places_of left) ≡ length left
length-places [] = refl
length-places (x ∷ left) = ap suc (length-places left)

pub few-left : (count back : ℕ) (left : List LeftLine) → ArePlaces count (back ∷ places_of left) → length left ≤ count
few-left count back left h = omega (arith, few count (back ∷ places_of left) h, length-places left)

-- ---- what is found has a place

pub get-within : (lines : List Split) (at : ℕ) → IfSome (slice_get lines at) (λ _. at < length lines)
get-within [] at = tt
get-within (d ∷ lines) zero = omega arith
get-within (d ∷ lines) (suc at) = more (slice_get lines at) (get-within lines at)
  where
    more : (o : Option Split) → IfSome o (λ _. at < length lines) → IfSome o (λ _. suc at < suc (length lines))
    more None h = tt
    more (Some e) h = omega (arith, h)

-- A number that was found is at most this.
abbrev pub IsBy : ℕ → Option (ℕ × List ℕ) → Type 0
IsBy most o = IfSome o (λ found. found.0 ≤ most)

by-or : (most : ℕ) (o : Option (List ℕ)) (n : ℕ) (other : Option (ℕ × List ℕ)) → n ≤ most → IsBy most other → IsBy most (rest_or o n other)
by-or most (Some rest) n other le h = le
by-or most None n other le h = h

pub first-within : (front shown : List ℕ) (most passed : ℕ) (lines : List Split) → passed + length lines ≤ most → IsBy most (first_with front shown passed lines)
first-within front shown most passed [] le = tt
first-within front shown most passed (d ∷ lines) le =
    by-or most (other_rest front shown (line_text d)) (passed + 1) (first_with front shown (passed + 1) lines) (omega (arith, le))
    (first-within front shown most (passed + 1) lines (omega (arith, le)))

pub last-within : (front shown : List ℕ) (most n : ℕ) (lines : List Split) → n ≤ most → IsBy most (last_with front shown n lines)
last-within front shown most zero lines le = tt
last-within front shown most (suc n) lines le =
    by-or most (rest_at front shown n lines) (n + 1) (last_with front shown n lines) (omega (arith, le)) (last-within front shown most n lines (omega (arith, le)))

pub some-both : {X : Type 0} (P Q : X → Type 0) (o : Option X) → IfSome o P → IfSome o Q → IfSome o (λ x. P x × Q x)
some-both P Q (Some x) h k = (h, k)
some-both P Q None h k = tt
