-- The functions of the commands of style are well formed.
use Rattle.std.proofs.Common.{ℕ, ◌==◌, true, false, cond, List, [], ◌∷◌, ◌++◌, Option, Some, None, refl, codes, map}
use Rattle.std.specs.Bool.{⊤}
use Rattle.std.specs.List.{AllByRecursion}
use Rattle.crossterm_command.specs.Tokens.{Token, IsParameter, IsWellFormed}
use Rattle.crossterm_command.specs.Tokens.Token.{Char}
use Rattle.crossterm_command.proofs.Readings.{all_joined, control_formed, parameters_at}
use Rattle.crossterm_command.specs.declared.color_output.ColorOutput.{ColorOutput}
use Rattle.crossterm_style.specs.declared.types.attribute.Attribute.{Attribute}
use Rattle.crossterm_style.specs.declared.types.attribute.Attribute.TheVariants.{Reset}
use Rattle.crossterm_style.specs.declared.types.color.Color.{Color}
use Rattle.crossterm_style.specs.declared.types.colored.Colored.{Colored}
use Rattle.crossterm_style.specs.declared.types.colored.Colored.TheVariants.{ForegroundColor, BackgroundColor, UnderlineColor}
use Rattle.crossterm_style.specs.declared.content_style.ContentStyle.{ContentStyle}
use Rattle.crossterm_style.specs.Attributes.{code_of, members}
use Rattle.crossterm_style.specs.Colors.{colored_text}
use Rattle.crossterm_style.specs.Acts.{StyleAct, either_there, end_acts, reset_where, style_acts, styled_acts, where_there}
use Rattle.crossterm_style.specs.Acts.StyleAct.{Prints, Colors, Takes}
use Rattle.crossterm_style.specs.Styles.{act_functions, attribute_functions, color_functions, colors_functions, act_tokens}
use Rattle.crossterm_style.proofs.Parameters.{code_known, colored_parameters}

abbrev pub Formed : List Token → Type 0
Formed ts = AllByRecursion IsWellFormed ts

-- ---- one by one

pub color_formed : (colors : ColorOutput) (c : Colored) → Formed (color_functions colors c)
color_formed colors c = control_formed (colored_text colors c) "m" (colored_parameters colors c) refl

pub colors_formed : (colors : ColorOutput) (f b : Option Color) → Formed (colors_functions colors f b)
colors_formed colors (Some f) (Some b) =
    let front = colored_text colors (ForegroundColor f) in
    let back = colored_text colors (BackgroundColor b) in
    control_formed (front ++ (codes ";" ++ back)) "m" (all_joined IsParameter front _ (colored_parameters colors (ForegroundColor f))
    (all_joined IsParameter (codes ";") back (parameters_at (codes ";") refl) (colored_parameters colors (BackgroundColor b)))) refl
colors_formed colors (Some f) None = color_formed colors (ForegroundColor f)
colors_formed colors None (Some b) = color_formed colors (BackgroundColor b)
colors_formed colors None None = tt

pub attribute_formed : (a : Attribute) → Formed (attribute_functions a)
attribute_formed a = control_formed (code_of a) "m" (parameters_at (code_of a) (code_known a)) refl

-- ---- acts

-- What is printed is well formed.
abbrev pub PrintsPlain : StyleAct → Type 0
PrintsPlain (Prints cs) = Formed (map Char cs)
PrintsPlain a = ⊤

act_formed : (colors : ColorOutput) (a : StyleAct) → PrintsPlain a → Formed (act_functions colors a)
act_formed colors (Prints cs) h = h
act_formed colors (Colors c) h = color_formed colors c
act_formed colors (Takes a) h = attribute_formed a

pub tokens_formed : (colors : ColorOutput) (acts : List StyleAct) → AllByRecursion PrintsPlain acts → Formed (act_tokens colors acts)
tokens_formed colors [] h = tt
tokens_formed colors (a ∷ acts) h = all_joined IsWellFormed (act_functions colors a) (act_tokens colors acts) (act_formed colors a h.0) (tokens_formed colors acts h.1)

there_plain : (place : Color → Colored) (o : Option Color) → AllByRecursion PrintsPlain (where_there place o)
there_plain place None = tt
there_plain place (Some c) = (tt, tt)

pub attributes_plain : (all : List Attribute) → AllByRecursion PrintsPlain (map Takes all)
attributes_plain [] = tt
attributes_plain (a ∷ all) = (tt, attributes_plain all)

both_plain : (xs ys : List StyleAct) → AllByRecursion PrintsPlain xs → AllByRecursion PrintsPlain ys → AllByRecursion PrintsPlain (xs ++ ys)
both_plain = all_joined PrintsPlain

pub style_plain : (s : ContentStyle) → AllByRecursion PrintsPlain (style_acts s)
style_plain s =
    both_plain (where_there BackgroundColor s.background_color) _ (there_plain BackgroundColor s.background_color)
    (both_plain (where_there ForegroundColor s.foreground_color) _ (there_plain ForegroundColor s.foreground_color)
    (both_plain (where_there UnderlineColor s.underline_color) _ (there_plain UnderlineColor s.underline_color) (attributes_plain (members s.attributes.0))))

end_plain : (s : ContentStyle) → AllByRecursion PrintsPlain (end_acts s)
end_plain s =
    let back = where_there BackgroundColor (reset_where (either_there s.background_color None)) in
    let front = where_there ForegroundColor (reset_where (either_there s.foreground_color s.underline_color)) in
    elim (s.attributes.0 == 0) as (λ b. AllByRecursion PrintsPlain (cond b (back ++ front) (Takes Reset ∷ []))) [
      | true ↦ both_plain back front (there_plain BackgroundColor _) (there_plain ForegroundColor _)
      | false ↦ (tt, tt)
    ]

pub styled_plain : (s : ContentStyle) (content : List ℕ) → Formed (map Char content) → AllByRecursion PrintsPlain (styled_acts s content)
styled_plain s content h = both_plain (style_acts s) (Prints content ∷ end_acts s) (style_plain s) (h, end_plain s)
