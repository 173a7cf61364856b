-- Sets of attributes and their members.
use Rattle.std.proofs.Common.{◌≡◌, ℕ, zero, suc, ◌+◌, ◌*◌, ◌/◌, ◌%◌, ◌^◌, ◌<◌, ◌≤◌, ◌==◌, ◌⊎◌, ◌↔◌, inl, inr, max, min, Bool, true, false, ◌||◌, IsTrue, List, [], ◌∷◌, length, get_or, refl, sym, ◌∙◌, subst, arith, rules}
use Rattle.std.proofs.Math.Nat.{pow-suc}
use Rattle.std.proofs.Math.Pow.{pow-lt}
use Rattle.std.proofs.lemmas.Bool.{cases_lt}
use Rattle.std.proofs.lemmas.List.Elements.{Contains-append_cases, Contains-append_right}
use Rattle.std.proofs.lemmas.Nat.{or_lt, xor_lt, and_le_l}
use Rattle.std.proofs.lemmas.Nat.Bits.{bit_at-zero, bit_at-lt, bit_at-suc, bit_at_above, bit_at_and, bit_at_lowest, bit_at_or, bit_at_xor, bit_at-pow_other}
use Rattle.std.specs.Cmp.{unsigned_Decides}
use Rattle.std.specs.Int.{bit_at}
use Rattle.std.specs.Int.RustNames.{bit_and, bit_or, bit_xor}
use Rattle.std.specs.List.{Contains}
use Rattle.crossterm_style.specs.declared.types.attribute.Attribute.{Attribute}
use Rattle.crossterm_style.specs.declared.types.attribute.Attribute.TheVariants as attribute
use Rattle.crossterm_style.specs.Attributes.{OnlyAttributes, all_attributes, bit_of, has_attribute, of_list, attribute_index, with_all}
use Rattle.crossterm_style.proofs.SetLaws as law

-- ---- the set of a list

either : (p q : Bool) → (p || q) ≡ true → (p ≡ true) ⊎ (q ≡ true)
either true q h = inl refl
either false q h = inr h

of_either : (p q : Bool) → (p ≡ true) ⊎ (q ≡ true) → (p || q) ≡ true
of_either true q h = refl
of_either false q (inl h) = absurd (cc)
of_either false q (inr h) = h

first_is : (x : Attribute) (all : List Attribute) (a : Attribute) → a ≡ x → Contains (x ∷ all) a
first_is x all a e = (0, omega arith, sym e)

only_is : (x a : Attribute) → Contains (x ∷ []) a → x ≡ a
only_is x a (zero, few, is) = is
only_is x a (suc k, few, is) = absurd (omega (arith, few))

-- A set with the attributes of a list has those that it had, and those of the list.
listed_from : (bits : ℕ) (all : List Attribute) (a : Attribute) → IsTrue (has_attribute (with_all bits all) a) ↔ (IsTrue (has_attribute bits a) ⊎ Contains all a)
listed_from bits [] a = (λ h. inl h, elim [ inl h ↦ h | inr none ↦ absurd (omega (arith, none.1)) ])
listed_from bits (x ∷ all) a =
    let later = listed_from (bit_or bits (bit_of x)) all a in
    let union : has_attribute (bit_or bits (bit_of x)) a ≡ (has_attribute bits a || has_attribute (bit_of x) a) = law.union bits (bit_of x) a in
    let has_one : IsTrue (has_attribute (bit_or bits (bit_of x)) a) → IsTrue (has_attribute bits a) ⊎ Contains (x ∷ all) a =
    λ h. elim (either (has_attribute bits a) (has_attribute (bit_of x) a) (sym union ∙ h)) [ inl had ↦ inl had | inr one ↦ inr (first_is x all a (law.one x a one)) ] in
    let is_one : Contains (x ∷ []) a → IsTrue (has_attribute (bit_of x) a) = λ c. subst (λ (b : Attribute). has_attribute (bit_of x) b ≡ true) (only_is x a c) (law.itself x) in (
      λ h. elim (later.0 h) [ inl one ↦ has_one one | inr c ↦ inr (Contains-append_right (x ∷ []) all a c) ],
      elim [
        | inl had ↦ later.1 (inl (union ∙ of_either (has_attribute bits a) (has_attribute (bit_of x) a) (inl had)))
        | inr c ↦ elim (Contains-append_cases (x ∷ []) all a c) [
          | inl one ↦ later.1 (inl (union ∙ of_either (has_attribute bits a) (has_attribute (bit_of x) a) (inr (is_one one))))
          | inr more ↦ later.1 (inr more)
        ]
      ],
    )

-- The set of a list has exactly its attributes.
pub listed : (all : List Attribute) (a : Attribute) → IsTrue (has_attribute (of_list all) a) ↔ Contains all a
listed all a =
    let both = listed_from 0 all a in
    let none : has_attribute 0 a ≡ false = law.none a in (
      λ h. elim (both.0 h) [ inl was ↦ absurd (cc) | inr c ↦ c ],
      λ c. both.1 (inr c),
    )

-- ---- sets of attributes alone

pub one_low : (a : Attribute) → bit_at (bit_of a) 0 ≡ 0
one_low a = bit_at-pow_other (attribute_index a + 1) 0 (λ e. omega (arith, e))

pub one_few : (a : Attribute) → bit_of a < 2 ^ 29
one_few a =
    let few : attribute_index a + 1 < 29 = omega (arith, law.place_few a) in
    pow-lt few

pub union_low : (x y : ℕ) → bit_at x 0 ≡ 0 → bit_at y 0 ≡ 0 → bit_at (bit_or x y) 0 ≡ 0
union_low x y p q = bit_at_or x y 0 ∙ (λ i. max (p i) (q i))

pub union_few : (x y : ℕ) → x < 2 ^ 29 → y < 2 ^ 29 → bit_or x y < 2 ^ 29
union_few x y = or_lt 29 x y

pub differing_low : (x y : ℕ) → bit_at x 0 ≡ 0 → bit_at y 0 ≡ 0 → bit_at (bit_xor x y) 0 ≡ 0
differing_low x y p q = bit_at_xor x y 0 ∙ (λ i. (p i + q i) % 2)

pub differing_few : (x y : ℕ) → x < 2 ^ 29 → y < 2 ^ 29 → bit_xor x y < 2 ^ 29
differing_few x y = xor_lt 29 x y

pub less_low : (x y : ℕ) → bit_at x 0 ≡ 0 → bit_at (bit_and x y) 0 ≡ 0
less_low x y p =
    let low : min (bit_at x 0) (bit_at y 0) ≡ 0 = omega (arith, p) in
    bit_at_and x y 0 ∙ low

pub less_few : (x y : ℕ) → x < 2 ^ 29 → bit_and x y < 2 ^ 29
less_few x y p = omega (arith, p, and_le_l x y)

-- What each operation makes holds attributes alone.
pub ruleset kept = (one_low, one_few, union_low, union_few, differing_low, differing_few, less_low, less_few)

no_bit : OnlyAttributes 0
no_bit = (bit_at-zero 0, omega arith)

-- ---- numbers of the same bits

same_bits : (k x y : ℕ) → x < 2 ^ k → y < 2 ^ k → ((i : ℕ) → bit_at x i ≡ bit_at y i) → x ≡ y
same_bits zero x y l m same = omega (arith, l, m)
same_bits (suc k) x y l m same =
    let double : 2 ^ suc k ≡ 2 ^ k * 2 = pow-suc 2 k in
    let halves : x / 2 ≡ y / 2 = same_bits k (x / 2) (y / 2) (omega (arith, l, double)) (omega (arith, m, double)) (λ i. sym (bit_at-suc x i) ∙ same (suc i) ∙ bit_at-suc y i) in
    let low : x % 2 ≡ y % 2 = sym (bit_at_lowest x) ∙ same 0 ∙ bit_at_lowest y in
    omega arith

below_or : (i : ℕ) → (i < 29) ⊎ (29 ≤ i)
below_or i = cases_lt i 29

-- ---- the attribute at a place

abbrev InPlaces : ℕ → List Attribute → Type 0
InPlaces n [] = Unit {0}
InPlaces n (a ∷ all) = (attribute_index a ≡ n) × InPlaces (suc n) all

placed : (all : List Attribute) (n k : ℕ) → InPlaces n all → k < length all → attribute_index (get_or all k attribute.Reset) ≡ n + k
placed [] n k places few = absurd (omega (arith, few))
placed (a ∷ all) n zero places few = omega (arith, places.0)
placed (a ∷ all) n (suc k) places few = omega (arith, placed all (suc n) k places.1 (omega (arith, few)))

all_placed : InPlaces 0 all_attributes
all_placed = search rules

same_test : (p q : ℕ) → p < 2 → q < 2 → (p == 1) ≡ (q == 1) → p ≡ q
same_test zero zero l m e = refl
same_test zero (suc zero) l m e = absurd (cc)
same_test (suc zero) zero l m e = absurd (cc)
same_test (suc zero) (suc zero) l m e = refl
same_test (suc (suc p)) q l m e = absurd (omega (arith, l))
same_test p (suc (suc q)) l m e = absurd (omega (arith, m))

module _ (x y : ℕ) (p : OnlyAttributes x) (q : OnlyAttributes y) (same : (a : Attribute) → has_attribute x a ≡ has_attribute y a) where
  same_at : (k : ℕ) → k < 28 → bit_at x (k + 1) ≡ bit_at y (k + 1)
  same_at k few =
      let is : attribute_index (get_or all_attributes k attribute.Reset) ≡ k = placed all_attributes 0 k all_placed few ∙ omega arith in
      let test : (bit_at x (k + 1) == 1) ≡ (bit_at y (k + 1) == 1) = subst (λ (n : ℕ). (bit_at x (n + 1) == 1) ≡ (bit_at y (n + 1) == 1)) is (same (get_or all_attributes k attribute.Reset)) in
      same_test (bit_at x (k + 1)) (bit_at y (k + 1)) (bit_at-lt x (k + 1)) (bit_at-lt y (k + 1)) test

  same_bit : (i : ℕ) → (i < 29) ⊎ (29 ≤ i) → bit_at x i ≡ bit_at y i
  same_bit zero h = p.0 ∙ sym q.0
  same_bit (suc k) (inl h) = let e : k + 1 ≡ suc k = omega arith in subst (λ (n : ℕ). bit_at x n ≡ bit_at y n) e (same_at k (omega (arith, h)))
  same_bit (suc k) (inr h) = bit_at_above x 29 (suc k) p.1 h ∙ sym (bit_at_above y 29 (suc k) q.1 h)

  -- Sets of attributes alone that have the same members are equal.
  pub same_members : x ≡ y
  same_members = same_bits 29 x y p.1 q.1 (λ i. same_bit i (below_or i))

-- A set of attributes alone is empty exactly if it has no members.
pub no_members : (x : ℕ) → OnlyAttributes x → (x == 0) ≡ true ↔ ((a : Attribute) → has_attribute x a ≡ false)
no_members x p = (
  λ h a. subst (λ (n : ℕ). has_attribute n a ≡ false) (sym (same_number h)) (law.none a),
  λ none. let empty : x ≡ 0 = same_members x 0 p no_bit (λ a. none a ∙ sym (law.none a)) in rw empty,
)
  where
    same_number : (x == 0) ≡ true → x ≡ 0
    same_number = (unsigned_Decides x 0).0
