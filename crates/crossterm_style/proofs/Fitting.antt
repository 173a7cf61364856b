-- The numbers of colours are bytes, act by act.
use Rattle.std.proofs.Common.{List, [], ◌∷◌, ◌++◌, Option, Some, None, map}
use Rattle.std.specs.List.{AllByRecursion}
use Rattle.crossterm_command.proofs.Readings.{all_joined}
use Rattle.crossterm_style.specs.declared.types.attribute.Attribute.{Attribute}
use Rattle.crossterm_style.specs.declared.types.color.Color.{Color}
use Rattle.crossterm_style.specs.declared.types.colored.Colored.TheVariants.{ForegroundColor, BackgroundColor, UnderlineColor}
use Rattle.crossterm_style.specs.declared.content_style.ContentStyle.{ContentStyle}
use Rattle.crossterm_style.specs.Acts.{attribute_acts, style_acts, where_there}
use Rattle.crossterm_style.specs.Acts.StyleAct.{Takes}
use Rattle.crossterm_style.specs.Appearance.{FitsAct, FitsThere, colors_acts}
use Rattle.crossterm_style.specs.Attributes.{members}

foreground_fits : (o : Option Color) → FitsThere o → AllByRecursion FitsAct (where_there ForegroundColor o)
foreground_fits None h = tt
foreground_fits (Some c) h = (h, tt)

background_fits : (o : Option Color) → FitsThere o → AllByRecursion FitsAct (where_there BackgroundColor o)
background_fits None h = tt
background_fits (Some c) h = (h, tt)

underline_fits : (o : Option Color) → FitsThere o → AllByRecursion FitsAct (where_there UnderlineColor o)
underline_fits None h = tt
underline_fits (Some c) h = (h, tt)

pub takes_fit : (all : List Attribute) → AllByRecursion FitsAct (map Takes all)
takes_fit [] = tt
takes_fit (a ∷ all) = (tt, takes_fit all)

pub colors_fit : (f b : Option Color) → FitsThere f → FitsThere b → AllByRecursion FitsAct (colors_acts f b)
colors_fit f b h k = all_joined FitsAct (where_there ForegroundColor f) (where_there BackgroundColor b) (foreground_fits f h) (background_fits b k)

pub style_fits : (s : ContentStyle) → FitsThere s.background_color → FitsThere s.foreground_color → FitsThere s.underline_color → AllByRecursion FitsAct (style_acts s)
style_fits s b f u =
    let attributes = attribute_acts s.attributes.0 in
    let underline = where_there UnderlineColor s.underline_color in
    let foreground = where_there ForegroundColor s.foreground_color in
    all_joined FitsAct (where_there BackgroundColor s.background_color) (foreground ++ (underline ++ attributes)) (background_fits s.background_color b)
    (all_joined FitsAct foreground (underline ++ attributes) (foreground_fits s.foreground_color f)
    (all_joined FitsAct underline attributes (underline_fits s.underline_color u) (takes_fit (members s.attributes.0))))
