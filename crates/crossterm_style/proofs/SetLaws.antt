-- What holds of bits, and of sets of attributes.
use mathlib.Core.Bool.{true≢false}
use Rattle.std.proofs.Common.{◌≡◌, ◌≢◌, ℕ, zero, suc, ◌+◌, ◌-◌, ◌^◌, ◌<◌, ◌==◌, ◌%◌, min, max, Bool, true, false, not, ◌&&◌, ◌||◌, refl, sym, ap, ◌∙◌, arith, rules, get_or}
use Rattle.std.proofs.lemmas.Bool.Decides.{nat_tests}
use Rattle.std.proofs.lemmas.Nat.Bits.{bit_at-zero, bit_at-lt, bit_at_and, bit_at_or, bit_at_xor, bit_at_not, bit_at-pow_same, bit_at-pow_other}
use Rattle.std.specs.Int.{bit_at, bit_not, w32}
use Rattle.std.specs.Int.RustNames.{bit_and, bit_or, bit_xor}
use Rattle.std.proofs.lemmas.Bool.{eqb-true}
use Rattle.crossterm_flags.proofs.Ranks.{of_each}
use Rattle.crossterm_style.specs.contracts.types.attribute.Attribute as attribute_enum
use Rattle.crossterm_style.specs.declared.types.attribute.Attribute.{Attribute}
use Rattle.crossterm_style.specs.declared.types.attribute.Attribute.TheVariants as attribute
use Rattle.crossterm_style.specs.Attributes.{Combines, all_attributes, bit_of, differ, has_attribute, attribute_index}

-- ---- two bits

-- An operation on bits is one on truths, if it is at each pair of bits.
module _ (on_bits : ℕ → ℕ → ℕ) (on_truths : Bool → Bool → Bool)
    (neither : (on_bits 0 0 == 1) ≡ on_truths false false) (second : (on_bits 0 1 == 1) ≡ on_truths false true)
    (first : (on_bits 1 0 == 1) ≡ on_truths true false) (both : (on_bits 1 1 == 1) ≡ on_truths true true) where
  two_bits : (p q : ℕ) → p < 2 → q < 2 → (on_bits p q == 1) ≡ on_truths (p == 1) (q == 1)
  two_bits zero zero l m = neither
  two_bits zero (suc zero) l m = second
  two_bits (suc zero) zero l m = first
  two_bits (suc zero) (suc zero) l m = both
  two_bits (suc (suc p)) q l m = absurd (omega (arith, l))
  two_bits p (suc (suc q)) l m = absurd (omega (arith, m))

-- ---- places

pub place_few : (a : Attribute) → attribute_index a < 28
place_few = of_each attribute_enum.enum _ (search (arith, rules))

at_place : (a : Attribute) → get_or all_attributes (attribute_index a) attribute.Reset ≡ a
at_place = of_each attribute_enum.enum _ (search rules)

same_place : (a b : Attribute) → attribute_index b ≡ attribute_index a → b ≡ a
same_place a b e = sym (at_place b) ∙ ap (λ n. get_or all_attributes n attribute.Reset) e ∙ at_place a

-- ---- sets

pub union : (x y : ℕ) → Combines (λ p q. p || q) x y (bit_or x y)
union x y a = let i = attribute_index a + 1 in ap (λ n. n == 1) (bit_at_or x y i) ∙ two_bits max (λ p q. p || q) refl refl refl refl (bit_at x i) (bit_at y i) (bit_at-lt x i) (bit_at-lt y i)

pub intersection : (x y : ℕ) → Combines (λ p q. p && q) x y (bit_and x y)
intersection x y a = let i = attribute_index a + 1 in ap (λ n. n == 1) (bit_at_and x y i) ∙ two_bits min (λ p q. p && q) refl refl refl refl (bit_at x i) (bit_at y i) (bit_at-lt x i) (bit_at-lt y i)

pub symmetric_difference : (x y : ℕ) → Combines differ x y (bit_xor x y)
symmetric_difference x y a = let i = attribute_index a + 1 in ap (λ n. n == 1) (bit_at_xor x y i) ∙ two_bits (λ p q. (p + q) % 2) differ refl refl refl refl (bit_at x i) (bit_at y i) (bit_at-lt x i) (bit_at-lt y i)

pub difference : (x y : ℕ) → y < 2 ^ 32 → Combines (λ p q. p && not q) x y (bit_and x (bit_not w32 y))
difference x y fits a =
    let i = attribute_index a + 1 in
    let few : i < 32 = omega (arith, place_few a) in
    ap (λ n. n == 1) (bit_at_and x (bit_not w32 y) i ∙ ap (min (bit_at x i)) (bit_at_not w32 y i fits few))
    ∙ two_bits (λ p q. min p (1 - q)) (λ p q. p && not q) refl refl refl refl (bit_at x i) (bit_at y i) (bit_at-lt x i) (bit_at-lt y i)

pub itself : (a : Attribute) → has_attribute (bit_of a) a ≡ true
itself a = ap (λ n. n == 1) (bit_at-pow_same (attribute_index a + 1))

other_places : (m n : ℕ) → (m == n) ≡ false → m + 1 ≢ n + 1
other_places m n e same = absurd (grind (arith, nat_tests))

pub one : (a b : Attribute) → has_attribute (bit_of a) b ≡ true → b ≡ a
one a b is = go (attribute_index b == attribute_index a) refl where
  go : (t : Bool) → (attribute_index b == attribute_index a) ≡ t → b ≡ a
  go true e = same_place a b (eqb-true (attribute_index b) (attribute_index a) e)
  go false e =
      let gone : has_attribute (bit_of a) b ≡ false = ap (λ n. n == 1) (bit_at-pow_other (attribute_index a + 1) (attribute_index b + 1) (other_places (attribute_index b) (attribute_index a) e)) in
      absurd (true≢false (sym is ∙ gone))

pub none : (a : Attribute) → has_attribute 0 a ≡ false
none a = ap (λ n. n == 1) (bit_at-zero (attribute_index a + 1))

-- What is said of sets.
pub ruleset said = (union, intersection, symmetric_difference, difference, itself, none)
