-- The fields of texts.
use Rattle.std.proofs.Common.{◌≡◌, ℕ, ◌==◌, ◌<◌, ◌↔◌, IsTrue, Bool, true, false, not, is_some, List, [], ◌∷◌, Option, Some, None, length, arith, ap, refl, sym, ◌∙◌, subst}
use Rattle.std.specs.Borrow.{Bor}
use Rattle.std.specs.List.{position_or_len, before_first, after_first}
use Rattle.std.proofs.lemmas.List.Sums.{fails_before_first}
use Rattle.std.proofs.lemmas.List.Splits.{length-slice_split, slice_split_none, slice_split_first}
use Rattle.std.specs.Str.Parse.{digits_value, without_leading_plus}
use Rattle.crossterm_style.specs.declared.types.sgr.SgrColor.{SgrColor}
use Rattle.crossterm_style.specs.declared.types.sgr.SgrColor.TheVariants.{Own, Indexed, Rgb}
use Rattle.crossterm_style.specs.Reading.{ReadsInk}
use Rattle.crossterm_style.specs.Fields.{fields, fields_left, BeginsWith, BeginsWithNone, AreParts}

-- A text has a field.
pub fields_there : (text : List ℕ) → fields text ≡ [] → ⊥
fields_there text e = omega (arith, length-slice_split (λ b. b == 59) text, ap length e)

pub empty_left : (rest : Option (Bor (List ℕ))) (empty : Bool) → is_some rest ≡ not empty → IsTrue empty ↔ (fields_left rest ≡ [])
empty_left None true e = (λ t. refl, λ f. refl)
empty_left None false e = absurd (cc)
empty_left (Some text) true e = absurd (cc)
empty_left (Some text) false e = (λ t. absurd (cc), λ f. absurd (fields_there text.now f))

-- `split_once` takes the first field.
pub split_some : (text : List ℕ) (front back : List ℕ) → (front ≡ before_first (λ b. b == 59) text) × (back ≡ after_first (λ b. b == 59) text) × (position_or_len (λ b. b == 59) text < length text) → fields text ≡ front ∷ fields back
split_some text front back s =
    let within : position_or_len (λ b. b == 59) text < length text = s.2 in
    slice_split_first (λ b. b == 59) text 0 within ∙ cc

-- A text without a semicolon is its only field.
pub split_none : (text : List ℕ) → position_or_len (λ b. b == 59) text ≡ length text → fields text ≡ text ∷ []
split_none text e = slice_split_none (λ b. b == 59) text (λ k d l. fails_before_first (λ b. b == 59) text k d (omega arith))

-- ---- numbers of bytes

-- Fields begin with one number of a byte at most.
pub begins_once : (fs : List (List ℕ)) (n m : ℕ) (r s : List (List ℕ)) → BeginsWith fs n r → BeginsWith fs m s → (n ≡ m) × (r ≡ s)
begins_once fs n m r s p q =
    let same : p.0 ≡ q.0 = cc in
    (sym p.2.1 ∙ ap (λ f. digits_value 10 (without_leading_plus f)) same ∙ q.2.1, cc)

pub no_second : (fs l : List (List ℕ)) (n : ℕ) → BeginsWith fs n l → BeginsWithNone l → (r g b : ℕ) → AreParts fs r g b → ⊥
no_second fs l n first none r g b p =
    let same = begins_once fs n r l p.0 first p.2 in
    none g p.1 (subst (λ x. BeginsWith x g p.1) (sym same.1) p.3)

pub no_third : (fs l k : List (List ℕ)) (n m : ℕ) → BeginsWith fs n l → BeginsWith l m k → ((o : ℕ) → BeginsWith k o [] → ⊥) → (r g b : ℕ) → AreParts fs r g b → ⊥
no_third fs l k n m first second none r g b p =
    let same = begins_once fs n r l p.0 first p.2 in
    let then = begins_once l m g k p.1 second (subst (λ x. BeginsWith x g p.1) (sym same.1) p.3) in
    none b (subst (λ x. BeginsWith x b []) (sym then.1) p.4)

-- ---- SGR colours

-- What follows the form of an SGR colour, by its number.
abbrev pub SgrAfter : ℕ → List (List ℕ) → SgrColor → Type 0
SgrAfter form rest Own = ⊥
SgrAfter form rest (Indexed n) = (form ≡ 5) × BeginsWith rest n []
SgrAfter form rest (Rgb r g b) = (form ≡ 2) × AreParts rest r g b

pub sgr_form : (fs : List (List ℕ)) (sgr : SgrColor) → ReadsInk fs sgr → (form : ℕ) × (rest : List (List ℕ)) × BeginsWith fs form rest × SgrAfter form rest sgr
sgr_form fs Own p = absurd p
sgr_form fs (Indexed n) p = (5, p.1 ∷ [], (p.0, p.2, p.3), (refl, (p.1, refl, p.4)))
sgr_form fs (Rgb r g b) p =
    (2, p.1 ∷ p.2 ∷ p.3 ∷ [], (p.0, p.4, p.5), (refl, (p.2 ∷ p.3 ∷ [], p.3 ∷ [], (p.1, refl, p.6), (p.2, refl, p.7), (p.3, refl, p.8))))

pub sgr_after : (fs rest : List (List ℕ)) (form : ℕ) (sgr : SgrColor) → BeginsWith fs form rest → ReadsInk fs sgr → SgrAfter form rest sgr
sgr_after fs rest form sgr first p =
    let q = sgr_form fs sgr p in
    let same = begins_once fs q.0 form q.1 rest q.2 first in
    subst (λ l. SgrAfter form l sgr) same.1 (subst (λ n. SgrAfter n q.1 sgr) same.0 q.3)

pub no_palette : (form : ℕ) (rest : List (List ℕ)) → form ≡ 5 → ((n : ℕ) → BeginsWith rest n [] → ⊥) → (sgr : SgrColor) → SgrAfter form rest sgr → ⊥
no_palette form rest e none Own p = p
no_palette form rest e none (Indexed n) p = none n p.1
no_palette form rest e none (Rgb r g b) p = absurd (omega (arith, p.0))

pub no_rgb : (form : ℕ) (rest : List (List ℕ)) → form ≡ 2 → ((r g b : ℕ) → AreParts rest r g b → ⊥) → (sgr : SgrColor) → SgrAfter form rest sgr → ⊥
no_rgb form rest e none Own p = p
no_rgb form rest e none (Indexed n) p = absurd (omega (arith, p.0))
no_rgb form rest e none (Rgb r g b) p = none r g b p.1

pub no_ink : (fs : List (List ℕ)) → BeginsWithNone fs → (sgr : SgrColor) → ReadsInk fs sgr → ⊥
no_ink fs none sgr p =
    let q = sgr_form fs sgr p in
    none q.0 q.1 q.2
