-- The texts of colours and attributes are parameter bytes.
use Rattle.std.proofs.Common.{◌≡◌, ℕ, true, List, ◌++◌, refl, codes}
use Rattle.std.specs.Fmt.{decimal}
use Rattle.std.specs.List.{AllByRecursion}
use Rattle.crossterm_command.specs.Tokens.{IsParameter}
use Rattle.crossterm_command.proofs.Readings.{all_joined, all_parameters, decimal_is_parameters, parameters_at}
use Rattle.crossterm_command.specs.declared.color_output.ColorOutput.{ColorOutput}
use Rattle.crossterm_command.specs.declared.color_output.ColorOutput.TheVariants.{Enabled, Disabled}
use Rattle.crossterm_style.specs.declared.types.attribute.Attribute.{Attribute}
use Rattle.crossterm_style.specs.declared.types.attribute.Attribute.TheVariants as attribute
use Rattle.crossterm_style.specs.declared.types.colored.Colored.{Colored}
use Rattle.crossterm_style.specs.declared.types.colored.Colored.TheVariants.{ForegroundColor, BackgroundColor, UnderlineColor}
use Rattle.crossterm_style.specs.declared.types.sgr.SgrColor.{SgrColor}
use Rattle.crossterm_style.specs.declared.types.sgr.SgrColor.TheVariants.{Own, Indexed, Rgb}
use Rattle.crossterm_style.specs.Attributes.{code_of}
use Rattle.crossterm_style.specs.Colors.{colored_text, sgr_of, sgr_text}

abbrev Parameters : List ℕ → Type 0
Parameters bs = AllByRecursion IsParameter bs

both_parameters : (a b : List ℕ) → Parameters a → Parameters b → Parameters (a ++ b)
both_parameters = all_joined IsParameter

sgr_parameters : (set reset : List ℕ) → Parameters set → Parameters reset → (i : SgrColor) → Parameters (sgr_text set reset i)
sgr_parameters set reset s r Own = r
sgr_parameters set reset s r (Indexed n) = both_parameters set _ s (both_parameters (codes ";5;") _ (parameters_at (codes ";5;") refl) (decimal_is_parameters n))
sgr_parameters set reset s r (Rgb x y z) =
    let two : Parameters (decimal y ++ (codes ";" ++ decimal z)) = both_parameters (decimal y) _ (decimal_is_parameters y) (both_parameters (codes ";") _ (parameters_at (codes ";") refl) (decimal_is_parameters z)) in
    let three : Parameters (decimal x ++ (codes ";" ++ (decimal y ++ (codes ";" ++ decimal z)))) = both_parameters (decimal x) _ (decimal_is_parameters x) (both_parameters (codes ";") _ (parameters_at (codes ";") refl) two) in
    both_parameters set _ s (both_parameters (codes ";2;") _ (parameters_at (codes ";2;") refl) three)

pub colored_parameters : (colors : ColorOutput) (c : Colored) → Parameters (colored_text colors c)
colored_parameters Disabled c = tt
colored_parameters Enabled (ForegroundColor c) = sgr_parameters (codes "38") (codes "39") (parameters_at (codes "38") refl) (parameters_at (codes "39") refl) (sgr_of c)
colored_parameters Enabled (BackgroundColor c) = sgr_parameters (codes "48") (codes "49") (parameters_at (codes "48") refl) (parameters_at (codes "49") refl) (sgr_of c)
colored_parameters Enabled (UnderlineColor c) = sgr_parameters (codes "58") (codes "59") (parameters_at (codes "58") refl) (parameters_at (codes "59") refl) (sgr_of c)

pub code_known : (a : Attribute) → all_parameters (code_of a) ≡ true
code_known attribute.Reset = refl
code_known attribute.Bold = refl
code_known attribute.Dim = refl
code_known attribute.Italic = refl
code_known attribute.Underlined = refl
code_known attribute.DoubleUnderlined = refl
code_known attribute.Undercurled = refl
code_known attribute.Underdotted = refl
code_known attribute.Underdashed = refl
code_known attribute.SlowBlink = refl
code_known attribute.RapidBlink = refl
code_known attribute.Reverse = refl
code_known attribute.Hidden = refl
code_known attribute.CrossedOut = refl
code_known attribute.Fraktur = refl
code_known attribute.NoBold = refl
code_known attribute.NormalIntensity = refl
code_known attribute.NoItalic = refl
code_known attribute.NoUnderline = refl
code_known attribute.NoBlink = refl
code_known attribute.NoReverse = refl
code_known attribute.NoHidden = refl
code_known attribute.NotCrossedOut = refl
code_known attribute.Framed = refl
code_known attribute.Encircled = refl
code_known attribute.OverLined = refl
code_known attribute.NotFramedOrEncircled = refl
code_known attribute.NotOverLined = refl
