-- How styling changes one field of a style.
use Rattle.std.specs.Prelude.{Some}
use Rattle.std.specs.Int.RustNames.{bit_or}
use Rattle.crossterm_style.specs.declared.types.attribute.Attribute.{Attribute}
use Rattle.crossterm_style.specs.declared.types.color.Color.{Color}
use Rattle.crossterm_style.specs.declared.content_style.ContentStyle.{ContentStyle}
use Rattle.crossterm_style.specs.Attributes.{bit_of}

-- The style with this foreground colour.
abbrev pub with_foreground : Color → ContentStyle → ContentStyle
with_foreground c s = record s { foreground_color = Some c }

-- The style with this background colour.
abbrev pub with_background : Color → ContentStyle → ContentStyle
with_background c s = record s { background_color = Some c }

-- The style with this underline colour.
abbrev pub with_underline : Color → ContentStyle → ContentStyle
with_underline c s = record s { underline_color = Some c }

-- The style with this attribute in addition.
abbrev pub plus_attribute : Attribute → ContentStyle → ContentStyle
plus_attribute a s = record s { attributes = record { 0 = bit_or s.attributes.0 (bit_of a) } }

-- A value that has a style, with its style changed.
abbrev pub style_changed : {S : Type 0} → (S → ContentStyle) → (S → ContentStyle → S) → (ContentStyle → ContentStyle) → S → S
style_changed style_of restyled change s = restyled s (change (style_of s))
