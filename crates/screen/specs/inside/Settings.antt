-- How a style is set after another one.
use Rattle.std.specs.Prelude.{◌≡◌, ◌≢◌, ⊤, Bool, true, false, Option, Some, None}
use Rattle.std.specs.List.{AllByRecursion}
use Rattle.crossterm_style.specs.declared.content_style.ContentStyle.{ContentStyle}
use Rattle.crossterm_style.specs.declared.types.attribute.Attribute.TheVariants.{Reset}
use Rattle.crossterm_style.specs.declared.types.color.Color.{Color}
use Rattle.crossterm_style.specs.declared.types.color.Color.TheVariants as color
use Rattle.crossterm_style.specs.Acts.{style_acts}
use Rattle.crossterm_style.specs.Appearance.{FitsAct}
use Rattle.crossterm_style.specs.Attributes.{has_attribute}
use Rattle.screen.specs.declared.settings.Setting.{Setting}
use Rattle.screen.specs.declared.settings.Setting.TheVariants as setting

-- The colour that is written for a wanted one, or the terminal's own if none is wanted.
abbrev pub written_color : Option Color → Color
written_color None = color.Reset
written_color (Some c) = c

-- What is written turns one colour into another: nothing if they are the same, otherwise the other one.
abbrev pub Changes : Option Color → Option Color → Option Color → Type 0
Changes from to None = from ≡ to
Changes from to (Some c) = (from ≢ to) × (c ≡ written_color to)

-- A change of colours alone turns the colours of one style into those of another.
pub record Recolors (from to change : ContentStyle) : Type 0 where
  pub foreground : Changes from.foreground_color to.foreground_color change.foreground_color
  pub background : Changes from.background_color to.background_color change.background_color
  pub underline : Changes from.underline_color to.underline_color change.underline_color
  pub none : change.attributes.0 ≡ 0

-- The attributes are the same, and none of them clears the colours.
abbrev pub HasSameRest : ContentStyle → ContentStyle → Type 0
HasSameRest from to = (has_attribute to.attributes.0 Reset ≡ false) × (from.attributes ≡ to.attributes)

-- The setting turns one style into another: nothing if they are the same, only colours if the attributes are the
-- same, or all.
abbrev pub SetsFrom : ContentStyle → ContentStyle → Setting → Type 0
SetsFrom from to setting.Kept = from ≡ to
SetsFrom from to (setting.Colors change) = (from ≢ to) × HasSameRest from to × Recolors from to change
SetsFrom from to (setting.Whole s) = (from ≢ to) × (s ≡ to)

-- The setting leads to this style. If it isn't known which one is set, all of it is written.
abbrev pub Sets : Option ContentStyle → ContentStyle → Setting → Type 0
Sets None to how = how ≡ setting.Whole to
Sets (Some from) to how = SetsFrom from to how

-- The numbers of the setting's colours are bytes.
abbrev pub HasByteColors : Setting → Type 0
HasByteColors setting.Kept = ⊤
HasByteColors (setting.Colors change) = AllByRecursion FitsAct (style_acts change)
HasByteColors (setting.Whole s) = AllByRecursion FitsAct (style_acts s)

-- Whether nothing is written.
abbrev pub is_kept : Setting → Bool
is_kept setting.Kept = true
is_kept how = false
