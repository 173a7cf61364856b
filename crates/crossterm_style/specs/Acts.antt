-- The acts of style commands on the look, by names: they print, and set colours and attributes.
use Rattle.std.specs.Prelude.{ℕ, ◌==◌, Bool, true, false, List, [], ◌∷◌, ◌++◌, Option, Some, None, map, if◌then◌else◌}
use Rattle.crossterm_command.specs.declared.color_output.ColorOutput.{ColorOutput}
use Rattle.crossterm_command.specs.declared.color_output.ColorOutput.TheVariants.{Enabled, Disabled}
use Rattle.crossterm_style.specs.declared.types.attribute.Attribute.{Attribute}
use Rattle.crossterm_style.specs.declared.types.attribute.Attribute.TheVariants as attribute
use Rattle.crossterm_style.specs.declared.types.color.Color.{Color}
use Rattle.crossterm_style.specs.declared.types.color.Color.TheVariants as color
use Rattle.crossterm_style.specs.declared.types.colored.Colored.{Colored}
use Rattle.crossterm_style.specs.declared.types.colored.Colored.TheVariants.{ForegroundColor, BackgroundColor, UnderlineColor}
use Rattle.crossterm_style.specs.declared.content_style.ContentStyle.{ContentStyle}
use Rattle.crossterm_style.specs.Attributes.{members}
use Rattle.crossterm_style.specs.Colors.{indexed_color}
use Rattle.crossterm_style.specs.Looks.{Style, plain, put}
use Rattle.crossterm_style.specs.Looks.Blink.{Slow, Rapid}
use Rattle.crossterm_style.specs.Looks.ColorPlace.{Foreground, Background, Underlining}
use Rattle.crossterm_style.specs.Looks.Underline.{Straight, Double, Curled, Dotted, Dashed}

-- The act of a style command.
pub data StyleAct : Type 0 where
  -- Characters are printed.
  Prints : List ℕ → StyleAct
  -- A colour is set.
  Colors : Colored → StyleAct
  -- An attribute is set.
  Takes : Attribute → StyleAct

-- ---- what they do to a style

-- The style after an attribute is set, which does what its name says.
abbrev pub with_attribute : Attribute → Style → Style
with_attribute attribute.Reset s = plain
with_attribute attribute.Bold s = record s { bold = true }
with_attribute attribute.Dim s = record s { dim = true }
with_attribute attribute.Italic s = record s { italic = true }
with_attribute attribute.Underlined s = record s { underline = Some Straight }
with_attribute attribute.DoubleUnderlined s = record s { underline = Some Double }
with_attribute attribute.Undercurled s = record s { underline = Some Curled }
with_attribute attribute.Underdotted s = record s { underline = Some Dotted }
with_attribute attribute.Underdashed s = record s { underline = Some Dashed }
with_attribute attribute.SlowBlink s = record s { blink = Some Slow }
with_attribute attribute.RapidBlink s = record s { blink = Some Rapid }
with_attribute attribute.Reverse s = record s { reverse = true }
with_attribute attribute.Hidden s = record s { hidden = true }
with_attribute attribute.CrossedOut s = record s { crossed_out = true }
with_attribute attribute.Fraktur s = record s { fraktur = true }
with_attribute attribute.NoBold s = record s { bold = false }
with_attribute attribute.NormalIntensity s = record s { bold = false; dim = false }
with_attribute attribute.NoItalic s = record s { italic = false; fraktur = false }
with_attribute attribute.NoUnderline s = record s { underline = None }
with_attribute attribute.NoBlink s = record s { blink = None }
with_attribute attribute.NoReverse s = record s { reverse = false }
with_attribute attribute.NoHidden s = record s { hidden = false }
with_attribute attribute.NotCrossedOut s = record s { crossed_out = false }
with_attribute attribute.Framed s = record s { framed = true }
with_attribute attribute.Encircled s = record s { encircled = true }
with_attribute attribute.OverLined s = record s { overlined = true }
with_attribute attribute.NotFramedOrEncircled s = record s { framed = false; encircled = false }
with_attribute attribute.NotOverLined s = record s { overlined = false }

-- A colour as it looks: the terminal's own is `None`, and the first sixteen of the palette have names.
abbrev pub shade : Color → Option Color
shade color.Reset = None
shade (color.AnsiValue n) = Some (indexed_color n)
shade c = Some c

-- The style after a colour is set at its place.
abbrev pub with_color : Colored → Style → Style
with_color (ForegroundColor c) s = put Foreground (shade c) s
with_color (BackgroundColor c) s = put Background (shade c) s
with_color (UnderlineColor c) s = put Underlining (shade c) s

-- The style after an act. A colour that is set while colours aren't written makes all plain.
abbrev pub after_act : ColorOutput → StyleAct → Style → Style
after_act colors (Prints cs) s = s
after_act Enabled (Colors c) s = with_color c s
after_act Disabled (Colors c) s = plain
after_act colors (Takes a) s = with_attribute a s

-- The style after acts, one after another.
abbrev pub after_acts : ColorOutput → List StyleAct → Style → Style
after_acts colors [] s = s
after_acts colors (a ∷ acts) s = after_acts colors acts (after_act colors a s)

-- The characters that an act prints, each in the style.
abbrev pub painted_by : StyleAct → Style → List (ℕ × Style)
painted_by (Prints cs) s = map (λ c. (c, s)) cs
painted_by a s = []

-- Each character that the acts print, with the style that it is printed in.
abbrev pub painted : ColorOutput → List StyleAct → Style → List (ℕ × Style)
painted colors [] s = []
painted colors (a ∷ acts) s = painted_by a s ++ painted colors acts (after_act colors a s)

-- ---- the acts of a style

-- The act that sets a colour at a place, or none if there is no colour.
abbrev pub where_there : (Color → Colored) → Option Color → List StyleAct
where_there place None = []
where_there place (Some c) = Colors (place c) ∷ []

-- The acts that set each attribute of a set, in declared order.
abbrev pub attribute_acts : ℕ → List StyleAct
attribute_acts bits = map Takes (members bits)

-- The acts that set a style: its background, foreground and underline colour, if there are any, and then its
-- attributes.
abbrev pub style_acts : ContentStyle → List StyleAct
style_acts s =
    where_there BackgroundColor s.background_color ++ (where_there ForegroundColor s.foreground_color
    ++ (where_there UnderlineColor s.underline_color ++ attribute_acts s.attributes.0))

-- Whether at least one of two colours is there.
abbrev pub either_there : Option Color → Option Color → Bool
either_there None None = false
either_there None (Some c) = true
either_there (Some c) d = true

-- The terminal's own colour if one is to be reset, otherwise `None`.
abbrev pub reset_where : Bool → Option Color
reset_where there = if there then Some color.Reset else None

-- The acts that reset the background and the foreground to the terminal's own colours, as far as asked for.
abbrev pub reset_acts : Bool → Bool → List StyleAct
reset_acts background foreground = where_there BackgroundColor (reset_where background) ++ where_there ForegroundColor (reset_where foreground)

-- The acts after a styled content: a reset of everything if the style has attributes.
-- Otherwise the background is reset if it had a colour, and the foreground if it or the underline had one.
abbrev pub end_acts : ContentStyle → List StyleAct
end_acts s =
    if s.attributes.0 == 0
    then reset_acts (either_there s.background_color None) (either_there s.foreground_color s.underline_color)
    else Takes attribute.Reset ∷ []

-- The acts of a styled content: its style, the content, and the end of the style.
abbrev pub styled_acts : ContentStyle → List ℕ → List StyleAct
styled_acts s content = style_acts s ++ (Prints content ∷ end_acts s)
