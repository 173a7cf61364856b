-- The SGR parameters of a colour at a place put it there.
use Rattle.std.proofs.Common.{◌≡◌, ℕ, ◌<◌, ◌==◌, nat_lt, true, false, List, [], ◌∷◌, ◌++◌, Option, Some, None, append_assoc, append-nil, arith, ap, refl, sym, ◌∙◌, codes, map}
use Rattle.std.specs.Fmt.{decimal}
use Rattle.std.specs.List.{AllByRecursion, list_all, slice_split}
use Rattle.std.specs.Str.Parse.{digits_value}
use Rattle.std.proofs.lemmas.Bool.Decides.{nat_tests}
use Rattle.std.proofs.lemmas.Fmt.{decimal_is_IsNumeral}
use Rattle.crossterm_style.specs.declared.types.color.Color.{Color}
use Rattle.crossterm_style.specs.declared.types.color.Color.TheVariants as color
use Rattle.crossterm_style.specs.declared.types.sgr.SgrColor.{SgrColor}
use Rattle.crossterm_style.specs.declared.types.sgr.SgrColor.TheVariants.{Own, Indexed, Rgb}
use Rattle.crossterm_style.specs.Acts.{shade}
use Rattle.crossterm_style.specs.Colors.{FitsSgr, sgr_of, sgr_text, indexed_color}
use Rattle.crossterm_style.specs.Looks.{Parameter, ColorPlace, Style, are_private, by_parameters, is_decimal, byte_number, number_or_other, parameter, parameter_of, parameters, put, sgr}
use Rattle.crossterm_style.specs.Looks.Parameter.{Number}
use Rattle.crossterm_style.specs.Looks.ColorPlace.{Foreground, Background, Underlining}
use Rattle.crossterm_style.proofs.TextLaws.{IsDigit, byte_digits, next_field, one_field}

-- ---- numbers among parameters

digit_passes : (d : ℕ) → IsDigit d → is_decimal d ≡ true
digit_passes d h = grind (arith, nat_tests)

digits_pass : (ds : List ℕ) → AllByRecursion IsDigit ds → list_all is_decimal ds ≡ true
digits_pass [] a = refl
digits_pass (d ∷ ds) a = rw (digit_passes d a.0, digits_pass ds a.1) refl

no_colon : (d : ℕ) → IsDigit d → (d == 58) ≡ false
no_colon d h = grind (arith, nat_tests)

one_part : (ds : List ℕ) → AllByRecursion IsDigit ds → slice_split (λ b. b == 58) ds ≡ ds ∷ []
one_part [] a = refl
one_part (d ∷ ds) a = rw (no_colon d a.0, one_part ds a.1) refl

below : (n : ℕ) → n < 256 → nat_lt n 256 ≡ true
below n h = grind (arith, nat_tests)

number_read : (n : ℕ) → n < 256 → byte_number (decimal n) ≡ Some n
number_read n h =
    let value : digits_value 10 (decimal n) ≡ n = (decimal_is_IsNumeral n (omega (arith, h))).1 in
    rw (digits_pass (decimal n) (byte_digits n h), value, below n h) refl

parameter_read : (n : ℕ) → n < 256 → parameter (decimal n) ≡ Number n
parameter_read n h = ap parameter_of (one_part (decimal n) (byte_digits n h)) ∙ ap number_or_other (number_read n h)

last_number : (n : ℕ) → n < 256 → parameters (decimal n) ≡ Number n ∷ []
last_number n h = ap (map parameter) (one_field (decimal n) (byte_digits n h)) ∙ ap (λ p. p ∷ []) (parameter_read n h)

next_number : (n : ℕ) (rest : List ℕ) → n < 256 → parameters (decimal n ++ (59 ∷ rest)) ≡ Number n ∷ parameters rest
next_number n rest h = ap (map parameter) (next_field (decimal n) rest (byte_digits n h)) ∙ ap (λ p. p ∷ parameters rest) (parameter_read n h)

-- ---- colours among parameters

abbrev pub sets : ColorPlace → List ℕ
sets Foreground = codes "38"
sets Background = codes "48"
sets Underlining = codes "58"

abbrev pub resets : ColorPlace → List ℕ
resets Foreground = codes "39"
resets Background = codes "49"
resets Underlining = codes "59"

abbrev setting : ColorPlace → ℕ
setting Foreground = 38
setting Background = 48
setting Underlining = 58

abbrev resetting : ColorPlace → ℕ
resetting Foreground = 39
resetting Background = 49
resetting Underlining = 59

abbrev sgr_parameters : ColorPlace → SgrColor → List Parameter
sgr_parameters p Own = Number (resetting p) ∷ []
sgr_parameters p (Indexed n) = Number (setting p) ∷ Number 5 ∷ Number n ∷ []
sgr_parameters p (Rgb r g b) = Number (setting p) ∷ Number 2 ∷ Number r ∷ Number g ∷ Number b ∷ []

own_read : (p : ColorPlace) → parameters (resets p) ≡ Number (resetting p) ∷ []
own_read Foreground = refl
own_read p = refl

own_first : (p : ColorPlace) (rest : List ℕ) → parameters (resets p ++ (59 ∷ rest)) ≡ Number (resetting p) ∷ parameters rest
own_first Foreground rest = refl
own_first p rest = refl

indexed_front : (p : ColorPlace) (rest : List ℕ) → parameters (sets p ++ (codes ";5;" ++ rest)) ≡ Number (setting p) ∷ Number 5 ∷ parameters rest
indexed_front Foreground rest = refl
indexed_front p rest = refl

rgb_front : (p : ColorPlace) (rest : List ℕ) → parameters (sets p ++ (codes ";2;" ++ rest)) ≡ Number (setting p) ∷ Number 2 ∷ parameters rest
rgb_front Foreground rest = refl
rgb_front p rest = refl

sgr_read : (p : ColorPlace) (i : SgrColor) → FitsSgr i → parameters (sgr_text (sets p) (resets p) i) ≡ sgr_parameters p i
sgr_read p Own h = own_read p
sgr_read p (Indexed n) h = indexed_front p (decimal n) ∙ ap (λ l. Number (setting p) ∷ Number 5 ∷ l) (last_number n h)
sgr_read p (Rgb r g b) h =
    rgb_front p _ ∙ ap (λ l. Number (setting p) ∷ Number 2 ∷ l) (next_number r _ h.0 ∙ ap (λ l. Number r ∷ l) (next_number g _ h.1 ∙ ap (λ l. Number g ∷ l) (last_number b h.2)))

parts_first : (r g b : ℕ) (rest : List ℕ) → r < 256 → g < 256 → b < 256
    → parameters ((decimal r ++ (codes ";" ++ (decimal g ++ (codes ";" ++ decimal b)))) ++ (59 ∷ rest)) ≡ Number r ∷ Number g ∷ Number b ∷ parameters rest
parts_first r g b rest hr hg hb =
    let tail = 59 ∷ rest in
    ap parameters (append_assoc (decimal r) (59 ∷ (decimal g ++ (59 ∷ decimal b))) tail ∙ ap (λ l. decimal r ++ (59 ∷ l)) (append_assoc (decimal g) (59 ∷ decimal b) tail))
    ∙ next_number r _ hr ∙ ap (λ l. Number r ∷ l) (next_number g _ hg ∙ ap (λ l. Number g ∷ l) (next_number b rest hb))

-- A colour before others.
sgr_first : (p : ColorPlace) (i : SgrColor) (rest : List ℕ) → FitsSgr i → parameters (sgr_text (sets p) (resets p) i ++ (59 ∷ rest)) ≡ sgr_parameters p i ++ parameters rest
sgr_first p Own rest h = own_first p rest
sgr_first p (Indexed n) rest h =
    ap parameters (append_assoc (sets p) (codes ";5;" ++ decimal n) (59 ∷ rest)) ∙ indexed_front p (decimal n ++ (59 ∷ rest))
    ∙ ap (λ l. Number (setting p) ∷ Number 5 ∷ l) (next_number n rest h)
sgr_first p (Rgb r g b) rest h =
    let parts = decimal r ++ (codes ";" ++ (decimal g ++ (codes ";" ++ decimal b))) in
    ap parameters (append_assoc (sets p) (codes ";2;" ++ parts) (59 ∷ rest)) ∙ rgb_front p (parts ++ (59 ∷ rest))
    ∙ ap (λ l. Number (setting p) ∷ Number 2 ∷ l) (parts_first r g b rest h.0 h.1 h.2)

-- ---- what they do

-- The colour that SGR parameters name.
abbrev pub sgr_shade : SgrColor → Option Color
sgr_shade Own = None
sgr_shade (Indexed n) = Some (indexed_color n)
sgr_shade (Rgb r g b) = Some (color.Rgb r g b)

pub shade_of : (c : Color) → sgr_shade (sgr_of c) ≡ shade c
shade_of color.Reset = refl
shade_of c = refl

own_puts : (p : ColorPlace) (ps : List Parameter) (s : Style) → by_parameters (Number (resetting p) ∷ ps) 0 s ≡ by_parameters ps 0 (put p None s)
own_puts Foreground ps s = refl
own_puts p ps s = refl

indexed_puts : (p : ColorPlace) (n : ℕ) (ps : List Parameter) (s : Style) → by_parameters (Number (setting p) ∷ Number 5 ∷ Number n ∷ ps) 0 s ≡ by_parameters ps 0 (put p (Some (indexed_color n)) s)
indexed_puts Foreground n ps s = refl
indexed_puts p n ps s = refl

rgb_puts : (p : ColorPlace) (r g b : ℕ) (ps : List Parameter) (s : Style)
    → by_parameters (Number (setting p) ∷ Number 2 ∷ Number r ∷ Number g ∷ Number b ∷ ps) 0 s ≡ by_parameters ps 0 (put p (Some (color.Rgb r g b)) s)
rgb_puts Foreground r g b ps s = refl
rgb_puts p r g b ps s = refl

sgr_puts : (p : ColorPlace) (i : SgrColor) (ps : List Parameter) (s : Style) → by_parameters (sgr_parameters p i ++ ps) 0 s ≡ by_parameters ps 0 (put p (sgr_shade i) s)
sgr_puts p Own ps s = own_puts p ps s
sgr_puts p (Indexed n) ps s = indexed_puts p n ps s
sgr_puts p (Rgb r g b) ps s = rgb_puts p r g b ps s

-- The same if nothing follows.
sgr_sets : (p : ColorPlace) (i : SgrColor) (s : Style) → FitsSgr i → by_parameters (parameters (sgr_text (sets p) (resets p) i)) 0 s ≡ put p (sgr_shade i) s
sgr_sets p Own s h = ap (λ ps. by_parameters ps 0 s) (sgr_read p Own h) ∙ sgr_puts p Own [] s
sgr_sets p (Indexed n) s h = ap (λ ps. by_parameters ps 0 s) (sgr_read p (Indexed n) h) ∙ sgr_puts p (Indexed n) [] s
sgr_sets p (Rgb r g b) s h = ap (λ ps. by_parameters ps 0 s) (sgr_read p (Rgb r g b) h) ∙ sgr_puts p (Rgb r g b) [] s

-- SGR's parameters aren't private.
public_resets : (p : ColorPlace) (rest : List ℕ) → are_private (resets p ++ rest) ≡ false
public_resets Foreground rest = refl
public_resets p rest = refl

public_sets : (p : ColorPlace) (rest : List ℕ) → are_private (sets p ++ rest) ≡ false
public_sets Foreground rest = refl
public_sets p rest = refl

public_ink : (p : ColorPlace) (i : SgrColor) (rest : List ℕ) → are_private (sgr_text (sets p) (resets p) i ++ rest) ≡ false
public_ink p Own rest = public_resets p rest
public_ink p (Indexed n) rest = ap are_private (append_assoc (sets p) (codes ";5;" ++ decimal n) rest) ∙ public_sets p ((codes ";5;" ++ decimal n) ++ rest)
public_ink p (Rgb r g b) rest =
    let parts = codes ";2;" ++ (decimal r ++ (codes ";" ++ (decimal g ++ (codes ";" ++ decimal b)))) in
    ap are_private (append_assoc (sets p) parts rest) ∙ public_sets p (parts ++ rest)

pub sgr_looks : (p : ColorPlace) (i : SgrColor) (s : Style) → FitsSgr i → sgr (sgr_text (sets p) (resets p) i) s ≡ put p (sgr_shade i) s
sgr_looks p i s h =
    let text = sgr_text (sets p) (resets p) i in
    let public : are_private text ≡ false = ap are_private (sym (append-nil text)) ∙ public_ink p i [] in
    rw public (sgr_sets p i s h)

-- A colour, and after a semicolon another.
pub sgrs_look : (p : ColorPlace) (i : SgrColor) (q : ColorPlace) (j : SgrColor) (s : Style) → FitsSgr i → FitsSgr j
    → sgr (sgr_text (sets p) (resets p) i ++ (codes ";" ++ sgr_text (sets q) (resets q) j)) s ≡ put q (sgr_shade j) (put p (sgr_shade i) s)
sgrs_look p i q j s h k =
    let rest = sgr_text (sets q) (resets q) j in
    rw (public_ink p i (59 ∷ rest)) (ap (λ ps. by_parameters ps 0 s) (sgr_first p i rest h) ∙ sgr_puts p i (parameters rest) s ∙ sgr_sets q j (put p (sgr_shade i) s) k)
