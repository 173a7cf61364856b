-- Colours, attributes and styles as numbers, and what they mean. The numbers are those of `bindings/c/gelvanh.h`, and any
-- others are none. An attribute is its place in declared order.
use Rattle.std.specs.Prelude.{◌==◌, ℕ, if◌then◌else◌, Bool, slice_get, Option, Some, None}
use Rattle.std.specs.Int.RustNames.{bit_and}
use Rattle.std.specs.List.{filter}
use Rattle.std.specs.Option.{option_map}
use Rattle.crossterm_style.specs.AttributeSet.{AttributeSet}
use Rattle.crossterm_style.specs.Attributes.{all_attributes, bit_of, of_list}
use Rattle.crossterm_style.specs.declared.content_style.ContentStyle.{ContentStyle}
use Rattle.crossterm_style.specs.declared.types.attribute.Attribute.{Attribute}
use Rattle.crossterm_style.specs.declared.types.color.Color.{Color}
use Rattle.crossterm_style.specs.declared.types.color.Color.TheVariants as color
use Rattle.numbers.specs.declared.style.GelvanhColor.{GelvanhColor}
use Rattle.numbers.specs.declared.style.GelvanhStyle.{GelvanhStyle}

-- The attribute at a place in declared order, or `None` if there is none.
abbrev pub attribute_at : ℕ → Option Attribute
attribute_at n = slice_get all_attributes n

-- The colour of a kind: 1 to 17 by name, 18 by its three parts, 19 by its number in the palette, which is `r`. Other
-- kinds give `None`.
abbrev pub color_of_kind : GelvanhColor → Option Color
color_of_kind c =
    if c.kind == 1 then Some color.Reset else
    if c.kind == 2 then Some color.Black else
    if c.kind == 3 then Some color.DarkGrey else
    if c.kind == 4 then Some color.Red else
    if c.kind == 5 then Some color.DarkRed else
    if c.kind == 6 then Some color.Green else
    if c.kind == 7 then Some color.DarkGreen else
    if c.kind == 8 then Some color.Yellow else
    if c.kind == 9 then Some color.DarkYellow else
    if c.kind == 10 then Some color.Blue else
    if c.kind == 11 then Some color.DarkBlue else
    if c.kind == 12 then Some color.Magenta else
    if c.kind == 13 then Some color.DarkMagenta else
    if c.kind == 14 then Some color.Cyan else
    if c.kind == 15 then Some color.DarkCyan else
    if c.kind == 16 then Some color.White else
    if c.kind == 17 then Some color.Grey else
    if c.kind == 18 then Some (color.Rgb c.r c.g c.b) else
    if c.kind == 19 then Some (color.AnsiValue c.r) else
    None

-- A colour that may be missing: with the kind 0 it is. Unknown kinds give `None`.
abbrev pub there_at : GelvanhColor → Option (Option Color)
there_at c = if c.kind == 0 then Some None else option_map Some (color_of_kind c)

-- Whether bits have the bit of an attribute.
abbrev pub includes : ℕ → Attribute → Bool
includes bits a = bit_and bits (bit_of a) == bit_of a

-- The bits of all attributes whose bits are among these.
unfoldable pub known_of : ℕ → ℕ
known_of bits = of_list (filter (includes bits) all_attributes)

-- The set of attributes of some bits, or `None` if other bits are set.
abbrev pub attributes_at : ℕ → Option AttributeSet
attributes_at bits = if known_of bits == bits then Some (record { 0 = bits }) else None

-- The style of three colours and a set of attributes, or `None` if one of them isn't valid.
abbrev styled_by : Option (Option Color) → Option (Option Color) → Option (Option Color) → Option AttributeSet → Option ContentStyle
styled_by (Some f) (Some b) (Some u) (Some a) = Some (record { foreground_color = f; background_color = b; underline_color = u; attributes = a })
styled_by _ _ _ _ = None

-- The style of some numbers, or `None` if a part of them isn't valid.
abbrev pub style_at : GelvanhStyle → Option ContentStyle
style_at s = styled_by (there_at s.foreground) (there_at s.background) (there_at s.underline) (attributes_at s.attributes)
