-- The text of a colour is read back.
use Rattle.std.proofs.Common.{◌≡◌, ◌≢◌, ℕ, ◌^◌, ◌<◌, ◌≤◌, ◌==◌, false, List, [], ◌∷◌, ◌++◌, Option, Some, None, get_or, arith, ap, refl, sym, ◌∙◌, subst, codes}
use Rattle.std.specs.Fmt.{decimal}
use Rattle.std.specs.List.{AllByRecursion}
use Rattle.std.specs.Str.Parse.{IsNumeral, digits_value}
use Rattle.std.proofs.Math.Nat.{mod-lt}
use Rattle.std.proofs.lemmas.Bool.Decides.{nat_tests}
use Rattle.std.proofs.lemmas.Fmt.{decimal_by_steps, decimal_is_IsNumeral}
use Rattle.std.proofs.lemmas.Str.Parse.{without_leading_plus_none}
use Rattle.crossterm_style.specs.declared.types.colored.Colored.{Colored}
use Rattle.crossterm_style.specs.declared.types.colored.Colored.TheVariants.{ForegroundColor, BackgroundColor, UnderlineColor}
use Rattle.crossterm_command.specs.declared.color_output.ColorOutput.TheVariants.{Enabled}
use Rattle.crossterm_style.specs.declared.types.sgr.SgrColor.{SgrColor}
use Rattle.crossterm_style.specs.declared.types.sgr.SgrColor.TheVariants.{Own, Indexed, Rgb}
use Rattle.crossterm_style.specs.Colors.{colored_text, sgr_of, sgr_text, with_name, FitsColored, FitsSgr}
use Rattle.crossterm_style.specs.Reading.{ReadsByte, ReadsPlace, ReadsColored}
use Rattle.crossterm_style.specs.Fields.{IsColoredRead, TextIsReadBack, fields}
use Rattle.crossterm_style.proofs.ReadingLaws.{one_colored}

-- ---- the digits of a number

abbrev pub IsDigit : ℕ → Type 0
IsDigit b = (48 ≤ b) × (b ≤ 57)

digits_append : (P : ℕ → Type 0) (xs ys : List ℕ) → AllByRecursion P xs → AllByRecursion P ys → AllByRecursion P (xs ++ ys)
digits_append P [] ys a b = b
digits_append P (x ∷ xs) ys a b = (a.0, digits_append P xs ys a.1 b)

decimal_digits : (n : ℕ) → n < 2 ^ 64 → AllByRecursion IsDigit (decimal n)
decimal_digits = decimal_by_steps (λ n ds. AllByRecursion IsDigit ds) (λ n h. ((omega arith, omega arith), tt))
    (λ n ds h a. digits_append IsDigit ds _ a ((omega arith, omega (arith, mod-lt n {m = 10} (omega arith))), tt))

no_plus : (ds : List ℕ) → AllByRecursion IsDigit ds → get_or ds 0 0 ≢ 43
no_plus [] a e = omega (arith, e)
no_plus (d ∷ ds) a e = omega (arith, a.0.0, e)

pub byte_reads : (n : ℕ) → n < 256 → ReadsByte (decimal n) n
byte_reads n h =
    let below : n < 2 ^ 64 = omega arith in
    let numeral = decimal_is_IsNumeral n below in
    let same = without_leading_plus_none (decimal n) (no_plus (decimal n) (decimal_digits n below)) in
    (subst (IsNumeral 10) (sym same) numeral.0, ap (digits_value 10) same ∙ numeral.1, h)

-- ---- fields of digits

no_semicolon : (d : ℕ) → IsDigit d → (d == 59) ≡ false
no_semicolon d h = grind (arith, nat_tests)

pub one_field : (ds : List ℕ) → AllByRecursion IsDigit ds → fields ds ≡ ds ∷ []
one_field [] a = refl
one_field (d ∷ ds) a = rw (no_semicolon d a.0, one_field ds a.1) refl

pub next_field : (ds rest : List ℕ) → AllByRecursion IsDigit ds → fields (ds ++ (59 ∷ rest)) ≡ ds ∷ fields rest
next_field [] rest a = refl
next_field (d ∷ ds) rest a = rw (no_semicolon d a.0, next_field ds rest a.1) refl

pub byte_digits : (n : ℕ) → n < 256 → AllByRecursion IsDigit (decimal n)
byte_digits n h = decimal_digits n (omega (arith, h))

parts_fields : (r g b : ℕ) → r < 256 → g < 256 → b < 256
    → fields (decimal r ++ (codes ";" ++ (decimal g ++ (codes ";" ++ decimal b)))) ≡ decimal r ∷ decimal g ∷ decimal b ∷ []
parts_fields r g b hr hg hb =
    next_field (decimal r) _ (byte_digits r hr) ∙ ap (λ l. decimal r ∷ l) (next_field (decimal g) _ (byte_digits g hg) ∙ ap (λ l. decimal g ∷ l) (one_field (decimal b) (byte_digits b hb)))

-- ---- SGR colours

-- The text of an SGR colour after a place's number, if a semicolon after that ends it as a field.
place_reads : (set reset : ℕ) (x y : List ℕ) → ReadsByte x set → ReadsByte y reset → ((rest : List ℕ) → fields (x ++ (59 ∷ rest)) ≡ x ∷ fields rest) → fields y ≡ y ∷ []
    → (sgr : SgrColor) → FitsSgr sgr → ReadsPlace set reset (fields (sgr_text x y sgr)) sgr
place_reads set reset x y sets resets cut whole Own h = (y, whole, resets)
place_reads set reset x y sets resets cut whole (Indexed n) h = (
  x,
  (53 ∷ []) ∷ decimal n ∷ [],
  cut (53 ∷ 59 ∷ decimal n) ∙ ap (λ l. x ∷ (53 ∷ []) ∷ l) (one_field (decimal n) (byte_digits n h)),
  sets,
  (53 ∷ [], decimal n, refl, ((omega arith, (omega arith, tt)), refl, omega arith), byte_reads n h),
)
place_reads set reset x y sets resets cut whole (Rgb r g b) h =
    let parts = decimal r ++ (codes ";" ++ (decimal g ++ (codes ";" ++ decimal b))) in (
      x,
      (50 ∷ []) ∷ decimal r ∷ decimal g ∷ decimal b ∷ [],
      cut (50 ∷ 59 ∷ parts) ∙ ap (λ l. x ∷ (50 ∷ []) ∷ l) (parts_fields r g b h.0 h.1 h.2),
      sets,
      (50 ∷ [], decimal r, decimal g, decimal b, refl, ((omega arith, (omega arith, tt)), refl, omega arith), byte_reads r h.0, byte_reads g h.1, byte_reads b h.2),
    )

text_reads : (c : Colored) → FitsColored c → ReadsColored (fields (colored_text Enabled c)) (with_name c)
text_reads (ForegroundColor c) h =
    (sgr_of c, place_reads 38 39 (codes "38") (codes "39") ((omega arith, (omega arith, (omega arith, tt))), refl, omega arith) ((omega arith, (omega arith, (omega arith, tt))), refl, omega arith) (λ rest. refl) refl (sgr_of c) h, refl)
text_reads (BackgroundColor c) h =
    (sgr_of c, place_reads 48 49 (codes "48") (codes "49") ((omega arith, (omega arith, (omega arith, tt))), refl, omega arith) ((omega arith, (omega arith, (omega arith, tt))), refl, omega arith) (λ rest. refl) refl (sgr_of c) h, refl)
text_reads (UnderlineColor c) h =
    (sgr_of c, place_reads 58 59 (codes "58") (codes "59") ((omega arith, (omega arith, (omega arith, tt))), refl, omega arith) ((omega arith, (omega arith, (omega arith, tt))), refl, omega arith) (λ rest. refl) refl (sgr_of c) h, refl)

read_back : (c : Colored) (o : Option Colored) → FitsColored c → IsColoredRead (colored_text Enabled c) o → o ≡ Some (with_name c)
read_back c None h p = absurd (p (with_name c) (text_reads c h))
read_back c (Some d) h p = ap Some (one_colored (fields (colored_text Enabled c)) d (with_name c) p (text_reads c h))

pub text_is_read_back : TextIsReadBack
text_is_read_back = read_back
