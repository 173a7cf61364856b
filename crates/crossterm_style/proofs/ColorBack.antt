-- Colours that are written are read back.
use Rattle.std.proofs.Common.{◌≡◌, ◌≢◌, ℕ, ◌==◌, ◌<◌, Bool, true, false, List, [], ◌∷◌, ◌++◌, Option, None, Some, arith, ap, refl, sym, ◌∙◌, codes}
use Rattle.std.specs.Cmp.Lexicographic.{same_text}
use Rattle.std.specs.Fmt.{decimal}
use Rattle.crossterm_flags.specs.Values.{same}
use Rattle.std.specs.List.{AllByRecursion, slice_split}
use Rattle.std.specs.Option.{option_map}
use Rattle.std.specs.Prelude.{if◌then◌else◌}
use Rattle.std.proofs.lemmas.Bool.Decides.{nat_tests}
use Rattle.crossterm_style.specs.Values.{FitsColor, FitsPlace, byte_of, color_name, color_text, colored_value, fields_rgb, holds, read_color, reads_colored, rgb_of, unmarked, without}
use Rattle.crossterm_style.specs.declared.types.color.Color.{Color}
use Rattle.crossterm_style.specs.declared.types.color.Color.TheVariants as color
use Rattle.crossterm_style.specs.declared.types.colored.Colored.{Colored}
use Rattle.crossterm_style.specs.declared.types.colored.Colored.TheVariants as colored
use Rattle.crossterm_style.proofs.MarkLaws.{byte_back}
use Rattle.crossterm_style.proofs.TextLaws.{IsDigit, byte_digits, byte_reads}

-- The text of a colour without numbers is its name.
pub named_json : (c : Color) → ((n : ℕ) → c ≡ color.AnsiValue n → ⊥) → ((r g b : ℕ) → c ≡ color.Rgb r g b → ⊥) → color_text c ≡ color_name c
named_json (color.AnsiValue n) f g = absurd (f n refl)
named_json (color.Rgb r g b) f h = absurd (h r g b refl)
named_json _ f g = refl

by_names : {X : Type 0} (a b c : Bool) (x y z : Option X) → (a ≡ true → ⊥) → (b ≡ true → ⊥) → (c ≡ true → ⊥) → (if a then x else (if b then y else (if c then z else None))) ≡ None
by_names true b c x y z f g h = absurd (f refl)
by_names false true c x y z f g h = absurd (g refl)
by_names false false true x y z f g h = absurd (h refl)
by_names false false false x y z f g h = refl

-- If a text is none of three names, none is chosen.
pub none_of : {X : Type 0} (text a b c : List ℕ) (x y z : Option X) → text ≢ a → text ≢ b → text ≢ c
    → (if same text a then x else (if same text b then y else (if same text c then z else None))) ≡ None
none_of text a b c x y z f g h =
    by_names (same text a) (same text b) (same text c) x y z
    (λ e. f (same_text text a (sym e))) (λ e. g (same_text text b (sym e))) (λ e. h (same_text text c (sym e)))

-- ---- digits have no mark

-- No digit is this byte.
abbrev NoDigit : ℕ → Type 0
NoDigit p = (d : ℕ) → IsDigit d → (p == d) ≡ false

passes : (p : ℕ) (ps ds rest : List ℕ) → NoDigit p → AllByRecursion IsDigit ds → without (p ∷ ps) (ds ++ rest) ≡ ds ++ without (p ∷ ps) rest
passes p ps [] rest apart a = refl
passes p ps (d ∷ ds) rest apart a = rw (apart d a.0, passes p ps ds rest apart a.1) refl

comma_passes : (p : ℕ) (ps rest : List ℕ) → (p == 44) ≡ false → without (p ∷ ps) (44 ∷ rest) ≡ 44 ∷ without (p ∷ ps) rest
comma_passes p ps rest comma = rw comma refl

lacks : (p : ℕ) (ps ds rest : List ℕ) → NoDigit p → AllByRecursion IsDigit ds → holds (p ∷ ps) (ds ++ rest) ≡ holds (p ∷ ps) rest
lacks p ps [] rest apart a = refl
lacks p ps (d ∷ ds) rest apart a = rw (apart d a.0, lacks p ps ds rest apart a.1) refl

not_a : NoDigit 97
not_a d h = grind (arith, nat_tests)

not_r : NoDigit 114
not_r d h = grind (arith, nat_tests)

not_closing : NoDigit 41
not_closing d h = grind (arith, nat_tests)

not_comma : (d : ℕ) → IsDigit d → (d == 44) ≡ false
not_comma d h = grind (arith, nat_tests)

one_part : (ds : List ℕ) → AllByRecursion IsDigit ds → slice_split (λ b. b == 44) ds ≡ ds ∷ []
one_part [] a = refl
one_part (d ∷ ds) a = rw (not_comma d a.0, one_part ds a.1) refl

next_part : (ds rest : List ℕ) → AllByRecursion IsDigit ds → slice_split (λ b. b == 44) (ds ++ (44 ∷ rest)) ≡ ds ∷ slice_split (λ b. b == 44) rest
next_part [] rest a = refl
next_part (d ∷ ds) rest a = rw (not_comma d a.0, next_part ds rest a.1) refl

-- ---- the two kinds of numbers

ends : (ds : List ℕ) → ds ++ [] ≡ ds
ends [] = refl
ends (d ∷ ds) = ap (λ l. d ∷ l) (ends ds)

number_back : (n : ℕ) → n < 256 → byte_of (decimal n) ≡ Some n
number_back n h = byte_back (decimal n) n (byte_reads n h)

ansi_unmarked : (n : ℕ) → n < 256 → unmarked (codes "ansi_(") (color_text (color.AnsiValue n)) ≡ decimal n
ansi_unmarked n h =
    let digits = byte_digits n h in
    ap (without (codes ")")) (passes 97 (codes "nsi_(") (decimal n) (codes ")") not_a digits)
    ∙ passes 41 [] (decimal n) (codes ")") not_closing digits ∙ ends (decimal n)

ansi_back : (n : ℕ) → n < 256 → read_color (color_text (color.AnsiValue n)) ≡ Some (color.AnsiValue n)
ansi_back n h = ap (option_map color.AnsiValue) (ap byte_of (ansi_unmarked n h) ∙ number_back n h)

-- Three numbers with commas between, and what follows.
abbrev three : ℕ → ℕ → ℕ → List ℕ → List ℕ
three r g b rest = decimal r ++ (44 ∷ (decimal g ++ (44 ∷ (decimal b ++ rest))))

module _ (r g b : ℕ) (hr : r < 256) (hg : g < 256) (hb : b < 256) where
  three_pass : (p : ℕ) (ps rest : List ℕ) → NoDigit p → (p == 44) ≡ false → without (p ∷ ps) (three r g b rest) ≡ three r g b (without (p ∷ ps) rest)
  three_pass p ps rest apart comma =
      let third = passes p ps (decimal b) rest apart (byte_digits b hb) in
      let second = passes p ps (decimal g) _ apart (byte_digits g hg) ∙ ap (λ l. decimal g ++ l) (comma_passes p ps _ comma ∙ ap (λ l. 44 ∷ l) third) in
      passes p ps (decimal r) _ apart (byte_digits r hr) ∙ ap (λ l. decimal r ++ l) (comma_passes p ps _ comma ∙ ap (λ l. 44 ∷ l) second)

  three_lack : holds (codes "ansi") (three r g b (codes ")")) ≡ false
  three_lack =
      lacks 97 (codes "nsi") (decimal r) _ not_a (byte_digits r hr) ∙ lacks 97 (codes "nsi") (decimal g) _ not_a (byte_digits g hg)
      ∙ lacks 97 (codes "nsi") (decimal b) _ not_a (byte_digits b hb)

  rgb_unmarked : unmarked (codes "rgb_(") (color_text (color.Rgb r g b)) ≡ three r g b []
  rgb_unmarked = ap (without (codes ")")) (three_pass 114 (codes "gb_(") (codes ")") not_r refl) ∙ three_pass 41 [] (codes ")") not_closing refl

  rgb_parts : slice_split (λ b. b == 44) (three r g b []) ≡ decimal r ∷ decimal g ∷ decimal b ∷ []
  rgb_parts =
      next_part (decimal r) _ (byte_digits r hr) ∙ ap (λ l. decimal r ∷ l) (next_part (decimal g) _ (byte_digits g hg)
      ∙ ap (λ l. decimal g ∷ l) (ap (slice_split (λ b. b == 44)) (ends (decimal b)) ∙ one_part (decimal b) (byte_digits b hb)))

  rgb_back : read_color (color_text (color.Rgb r g b)) ≡ Some (color.Rgb r g b)
  rgb_back =
      rw three_lack
      (ap (λ l. fields_rgb (slice_split (λ b. b == 44) l)) rgb_unmarked ∙ ap fields_rgb rgb_parts
      ∙ (λ i. rgb_of (number_back r hr i) (number_back g hg i) (number_back b hb i)))

pub color_back : (c : Color) → FitsColor c → read_color (color_text c) ≡ Some c
color_back (color.AnsiValue n) fits = ansi_back n fits
color_back (color.Rgb r g b) fits = rgb_back r g b fits.0 fits.1 fits.2
color_back _ fits = refl

pub colored_back : (c : Colored) → FitsPlace c → reads_colored (colored_value c) ≡ Some c
colored_back (colored.ForegroundColor c) fits = ap (option_map colored.ForegroundColor) (color_back c fits)
colored_back (colored.BackgroundColor c) fits = ap (option_map colored.BackgroundColor) (color_back c fits)
colored_back (colored.UnderlineColor c) fits = ap (option_map colored.UnderlineColor) (color_back c fits)
