-- No character before the Hangul letters takes two columns.
use Rattle.std.proofs.Common.{◌≡◌, ℕ, ◌<◌, ◌&&◌, ◌||◌, ◌==◌, nat_le, nat_lt, Bool, true, false, cond, List, [], ◌∷◌, Some, None, refl, ap, ◌∙◌, arith, if◌then◌else◌}
use Rattle.std.proofs.lemmas.Bool.{and_parts}
use Rattle.std.proofs.lemmas.Bool.Decides.{nat_tests}
use Rattle.unicode_width.specs.declared.kind.Kind.{Kind}
use Rattle.unicode_width.specs.declared.kind.Kind.TheVariants as kinds
use Rattle.unicode_width.specs.Kind.{kind}
use Rattle.unicode_width.specs.Width.{alone, char_width, of_kind, single}
use Rattle.unicode_width.proofs.KindLemmas.{kind_stepped}
use Rattle.unicode_width.proofs.Computing.{unicode_width}
use Rattle.screen.specs.Grids.{takes_two}
use Rattle.screen.specs.Marks.{is_width}

-- Whether no character of a kind takes two columns.
abbrev is_narrow : Kind → Bool
is_narrow kinds.Wide = false
is_narrow kinds.EmojiModifier = false
is_narrow kinds.Emoji = false
is_narrow k = true

-- The kind of the first step that ends after a character, or the default.
abbrev value_by : Kind → List (ℕ × Kind) → ℕ → Kind
value_by default [] c = default
value_by default (s ∷ steps) c = let later = value_by default steps c in if nat_lt c s.0 then s.1 else later

kind_by : (c : ℕ) → kind c ≡ value_by kind_stepped.default kind_stepped.steps c
unfolding unicode_width
kind_by = kind_stepped.gives

-- Whether the steps before an end are narrow.
abbrev all_narrow : Kind → ℕ → List (ℕ × Kind) → Bool
all_narrow default end [] = is_narrow default
all_narrow default end (s ∷ steps) = is_narrow s.1 && (nat_le end s.0 || all_narrow default end steps)

narrow_step : (before last more : Bool) (v later : Kind) → is_narrow v ≡ true → (last || more) ≡ true → (more ≡ true → is_narrow later ≡ true) → (before ≡ false → last ≡ false)
    → is_narrow (cond before v later) ≡ true
narrow_step true last more v later first rest next after = first
narrow_step false true more v later first rest next after = let bad : true ≡ false = after refl in cc
narrow_step false false more v later first rest next after = next rest

narrow_before : (default : Kind) (end : ℕ) (steps : List (ℕ × Kind)) (c : ℕ) → all_narrow default end steps ≡ true → c < end → is_narrow (value_by default steps c) ≡ true
narrow_before default end [] c h lt = h
narrow_before default end (s ∷ steps) c h lt =
    let parts = and_parts (is_narrow s.1) (nat_le end s.0 || all_narrow default end steps) h in
    narrow_step (nat_lt c s.0) (nat_le end s.0) (all_narrow default end steps) s.1 (value_by default steps c) parts.0 parts.1 (λ more. narrow_before default end steps c more lt) (λ e. grind (arith, nat_tests))

steps_are_narrow : all_narrow kind_stepped.default 0x1100 kind_stepped.steps ≡ true
unfolding unicode_width
steps_are_narrow = refl

kind_is_narrow : (c : ℕ) → c < 0x1100 → is_narrow (kind c) ≡ true
kind_is_narrow c lt = ap is_narrow (kind_by c) ∙ narrow_before kind_stepped.default 0x1100 kind_stepped.steps c steps_are_narrow lt

single_is_narrow : (c : ℕ) → ((single false c).0 == 2) ≡ false
single_is_narrow c = grind (arith, nat_tests)

narrow_of : (c : ℕ) (k : Kind) → is_narrow k ≡ true → ((of_kind false c k).0 == 2) ≡ false
narrow_of c kinds.Zero h = refl
narrow_of c kinds.Narrow h = refl
narrow_of c kinds.Wide h = cc
narrow_of c kinds.Ambiguous h = refl
narrow_of c kinds.Alef h = refl
narrow_of c kinds.KhmerLetter h = refl
narrow_of c kinds.TifinaghConsonant h = refl
narrow_of c kinds.LisuTone h = refl
narrow_of c kinds.RegionalIndicator h = refl
narrow_of c kinds.EmojiModifier h = cc
narrow_of c kinds.Emoji h = cc
narrow_of c kinds.Single h = single_is_narrow c

narrow_by : (low there high : Bool) (width : ℕ) → (width == 2) ≡ false → is_width 2 (cond low (cond there (Some 1) None) (cond high (Some width) None)) ≡ false
narrow_by true true high width h = refl
narrow_by true false high width h = refl
narrow_by false there true width h = h
narrow_by false there false width h = refl

-- No character before U+1100 takes two columns.
pub low_takes_no_two : (c : ℕ) → c < 0x1100 → takes_two c ≡ false
unfolding alone char_width
low_takes_no_two c lt = narrow_by (nat_lt c 0x7F) (nat_le 0x20 c) (nat_le 0xA0 c) (alone false c).0 (narrow_of c (kind c) (kind_is_narrow c lt))
