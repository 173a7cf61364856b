-- Colours turn the look of one style into that of another.
use Rattle.std.proofs.Common.{◌≡◌, ◌↔◌, true, false, cond, List, [], ◌∷◌, ◌++◌, Option, Some, None, refl, sym, ap, ◌∙◌, map, ℕ}
use Rattle.std.specs.List.{filter}
use Rattle.crossterm_command.specs.declared.color_output.ColorOutput.{ColorOutput}
use Rattle.crossterm_command.specs.declared.color_output.ColorOutput.TheVariants.{Enabled, Disabled}
use Rattle.crossterm_style.specs.declared.content_style.ContentStyle.{ContentStyle}
use Rattle.crossterm_style.specs.declared.types.attribute.Attribute.{Attribute}
use Rattle.crossterm_style.specs.declared.types.attribute.Attribute.TheVariants as attribute
use Rattle.crossterm_style.specs.declared.types.color.Color.{Color}
use Rattle.crossterm_style.specs.declared.types.colored.Colored.TheVariants.{ForegroundColor, BackgroundColor, UnderlineColor}
use Rattle.crossterm_style.specs.Acts.{StyleAct, after_acts, attribute_acts, shade, style_acts, where_there, with_attribute}
use Rattle.crossterm_style.specs.Acts.StyleAct.{Takes}
use Rattle.crossterm_style.specs.Attributes.{all_attributes, has_attribute, members}
use Rattle.crossterm_style.specs.Looks.{Style, plain}
use Rattle.screen.specs.Cells.{look}
use Rattle.screen.specs.declared.settings.Setting.{Setting}
use Rattle.screen.specs.declared.settings.Setting.TheVariants as setting
use Rattle.screen.specs.inside.Settings.{Changes, HasSameRest, Recolors, Sets, is_kept, written_color}

-- Nothing is written exactly if the style is already set.
pub kept_there : (set : Option ContentStyle) (to : ContentStyle) (how : Setting) → Sets set to how → (is_kept how ≡ true) ↔ (set ≡ Some to)
kept_there None to how s = ((λ k. let no : false ≡ true = sym (ap is_kept s) ∙ k in cc), (λ e. cc))
kept_there (Some from) to setting.Kept s = ((λ k. ap Some s), (λ e. refl))
kept_there (Some from) to (setting.Colors change) s = ((λ k. cc), (λ e. absurd (s.0 (ap (λ o. elim o [ None ↦ from | Some x ↦ x ]) e))))
kept_there (Some from) to (setting.Whole t) s = ((λ k. cc), (λ e. absurd (s.0 (ap (λ o. elim o [ None ↦ from | Some x ↦ x ]) e))))

-- ---- colours before attributes

-- A style in other colours.
abbrev in_colors : Option Color → Option Color → Option Color → Style → Style
in_colors f b u s = record s { foreground = f; background = b; underline_color = u }

-- The look of a colour that was set, or wasn't.
abbrev changed : Option Color → Option Color → Option Color
changed None o = o
changed (Some c) o = shade c

abbrev colors_then : Option Color → Option Color → Option Color → List StyleAct → List StyleAct
colors_then f b u acts = where_there BackgroundColor b ++ (where_there ForegroundColor f ++ (where_there UnderlineColor u ++ acts))

colors_set : (f b u : Option Color) (acts : List StyleAct) (s : Style)
    → after_acts Enabled (colors_then f b u acts) s ≡ after_acts Enabled acts (in_colors (changed f s.foreground) (changed b s.background) (changed u s.underline_color) s)
colors_set None None None acts s = refl
colors_set None None (Some u) acts s = refl
colors_set None (Some b) None acts s = refl
colors_set None (Some b) (Some u) acts s = refl
colors_set (Some f) None None acts s = refl
colors_set (Some f) None (Some u) acts s = refl
colors_set (Some f) (Some b) None acts s = refl
colors_set (Some f) (Some b) (Some u) acts s = refl

-- Colours that aren't written leave the plain style plain.
colors_unset : (f b u : Option Color) (acts : List StyleAct) → after_acts Disabled (colors_then f b u acts) plain ≡ after_acts Disabled acts plain
colors_unset None None None acts = refl
colors_unset None None (Some u) acts = refl
colors_unset None (Some b) None acts = refl
colors_unset None (Some b) (Some u) acts = refl
colors_unset (Some f) None None acts = refl
colors_unset (Some f) None (Some u) acts = refl
colors_unset (Some f) (Some b) None acts = refl
colors_unset (Some f) (Some b) (Some u) acts = refl

-- No attribute but Reset looks at colours.
attribute_keeps : (a : Attribute) (bits : ℕ) (f b u : Option Color) (s : Style) → has_attribute bits attribute.Reset ≡ false → has_attribute bits a ≡ true
    → with_attribute a (in_colors f b u s) ≡ in_colors f b u (with_attribute a s)
attribute_keeps attribute.Reset bits f b u s none there = let no : true ≡ false = sym there ∙ none in cc
attribute_keeps a bits f b u s none there = refl

taken : ℕ → List Attribute → Style → Style
taken bits all s = after_acts Enabled (map Takes (filter (has_attribute bits) all)) s

attributes_keep : (bits : ℕ) (all : List Attribute) (f b u : Option Color) (s : Style) → has_attribute bits attribute.Reset ≡ false → taken bits all (in_colors f b u s) ≡ in_colors f b u (taken bits all s)
unfolding taken
attributes_keep bits [] f b u s none = refl
attributes_keep bits (a ∷ all) f b u s none =
    elim (has_attribute bits a) as (λ v. has_attribute bits a ≡ v → after_acts Enabled (map Takes (cond v (a ∷ filter (has_attribute bits) all) (filter (has_attribute bits) all))) (in_colors f b u s)
    ≡ in_colors f b u (after_acts Enabled (map Takes (cond v (a ∷ filter (has_attribute bits) all) (filter (has_attribute bits) all))) s)) [
      | true ↦ λ there. ap (taken bits all) (attribute_keeps a bits f b u s none there) ∙ attributes_keep bits all f b u (with_attribute a s) none
      | false ↦ λ gone. attributes_keep bits all f b u s none
    ] refl

acts_keep : (bits : ℕ) (f b u : Option Color) (s : Style) → has_attribute bits attribute.Reset ≡ false → after_acts Enabled (attribute_acts bits) (in_colors f b u s) ≡ in_colors f b u (after_acts Enabled (attribute_acts bits) s)
unfolding members taken
acts_keep bits f b u s none = attributes_keep bits all_attributes f b u s none

no_attributes : (s : Style) → after_acts Enabled (attribute_acts 0) s ≡ s
unfolding members
no_attributes s = refl

-- ---- looks

-- The look of a colour, or of none.
abbrev seen_in : Option Color → Option Color
seen_in o = changed o None

-- A style's attributes, in its colours.
looks_enabled : (s : ContentStyle) → has_attribute s.attributes.0 attribute.Reset ≡ false
    → look Enabled s ≡ in_colors (seen_in s.foreground_color) (seen_in s.background_color) (seen_in s.underline_color) (after_acts Enabled (attribute_acts s.attributes.0) plain)
looks_enabled s none =
    colors_set s.foreground_color s.background_color s.underline_color (attribute_acts s.attributes.0) plain
    ∙ acts_keep s.attributes.0 (seen_in s.foreground_color) (seen_in s.background_color) (seen_in s.underline_color) plain none

written_seen : (o : Option Color) → shade (written_color o) ≡ seen_in o
written_seen None = refl
written_seen (Some c) = refl

color_turns : (from to change : Option Color) → Changes from to change → changed change (seen_in from) ≡ seen_in to
color_turns from to None h = ap seen_in h
color_turns from to (Some c) h = ap shade h.1 ∙ written_seen to

recolored_enabled : (from to change : ContentStyle) → HasSameRest from to → Recolors from to change → after_acts Enabled (style_acts change) (look Enabled from) ≡ look Enabled to
recolored_enabled from to change rest h =
    let there = ap (λ a. has_attribute a.0 attribute.Reset) rest.1 ∙ rest.0 in
    let before = after_acts Enabled (attribute_acts from.attributes.0) plain in
    let f = changed change.foreground_color (seen_in from.foreground_color) in
    let b = changed change.background_color (seen_in from.background_color) in
    let u = changed change.underline_color (seen_in from.underline_color) in
    ap (after_acts Enabled (style_acts change)) (looks_enabled from there)
    ∙ colors_set change.foreground_color change.background_color change.underline_color (attribute_acts change.attributes.0)
    (in_colors (seen_in from.foreground_color) (seen_in from.background_color) (seen_in from.underline_color) before)
    ∙ ap (λ n. after_acts Enabled (attribute_acts n) (in_colors f b u before)) h.none
    ∙ no_attributes (in_colors f b u before)
    ∙ ap (λ o. in_colors o b u before) (color_turns from.foreground_color to.foreground_color change.foreground_color h.foreground)
    ∙ ap (λ o. in_colors (seen_in to.foreground_color) o u before) (color_turns from.background_color to.background_color change.background_color h.background)
    ∙ ap (λ o. in_colors (seen_in to.foreground_color) (seen_in to.background_color) o before) (color_turns from.underline_color to.underline_color change.underline_color h.underline)
    ∙ ap (λ a. in_colors (seen_in to.foreground_color) (seen_in to.background_color) (seen_in to.underline_color) (after_acts Enabled (attribute_acts a.0) plain)) rest.1
    ∙ sym (looks_enabled to rest.0)

looks_disabled : (s : ContentStyle) → look Disabled s ≡ after_acts Disabled (attribute_acts s.attributes.0) plain
looks_disabled s = colors_unset s.foreground_color s.background_color s.underline_color (attribute_acts s.attributes.0)

-- The look that a change of colours gives. It is unchanged if colours aren't written.
abbrev pub recolored_by : ColorOutput → ContentStyle → Style → Style
recolored_by Enabled change s = after_acts Enabled (style_acts change) s
recolored_by Disabled change s = s

pub recolored : (colors : ColorOutput) (from to change : ContentStyle) → HasSameRest from to → Recolors from to change → recolored_by colors change (look colors from) ≡ look colors to
recolored Enabled from to change rest h = recolored_enabled from to change rest h
recolored Disabled from to change rest h = looks_disabled from ∙ ap (λ a. after_acts Disabled (attribute_acts a.0) plain) rest.1 ∙ sym (looks_disabled to)
