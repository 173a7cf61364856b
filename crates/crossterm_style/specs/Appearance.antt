-- The text that is written for style commands shows as these commands paint.
use Rattle.std.specs.Prelude.{◌≡◌, ◌≢◌, ℕ, ⊤, ◌⊎◌, ◌↔◌, List, [], ◌∷◌, ◌++◌, Option, Some, None, true, codes}
use Rattle.std.specs.List.{AllByRecursion}
use Rattle.crossterm_command.specs.Tokens.{Token}
use Rattle.crossterm_command.specs.declared.color_output.ColorOutput.{ColorOutput}
use Rattle.crossterm_command.specs.declared.color_output.ColorOutput.TheVariants.{Enabled, Disabled}
use Rattle.crossterm_style.specs.declared.types.attribute.Attribute.TheVariants.{Bold, Reset, Underlined, Undercurled}
use Rattle.crossterm_style.specs.declared.types.color.Color.{Color}
use Rattle.crossterm_style.specs.declared.types.color.Color.TheVariants as color
use Rattle.crossterm_style.specs.declared.types.colored.Colored.TheVariants.{ForegroundColor, BackgroundColor}
use Rattle.crossterm_style.specs.declared.content_style.ContentStyle.{ContentStyle}
use Rattle.crossterm_style.specs.Acts.{StyleAct, after_acts, attribute_acts, painted, style_acts, styled_acts, where_there}
use Rattle.crossterm_style.specs.Acts.StyleAct.{Prints, Colors, Takes}
use Rattle.crossterm_style.specs.Attributes.{of_list}
use Rattle.crossterm_style.specs.Colors.{FitsColored, FitsSgr, sgr_of}
use Rattle.crossterm_style.specs.Looks.{Style, plain, displayed, style_after}
use Rattle.crossterm_style.specs.Looks.Underline.{Curled}
use Rattle.crossterm_style.specs.Styles.{colors_functions, no_style, act_tokens}

-- The tokens show the characters that the acts paint, and leave the style that the acts leave.
abbrev pub ShowsAs : ColorOutput → List Token → List StyleAct → Style → Type 0
ShowsAs colors ts acts s = (displayed ts s ≡ painted colors acts s) × (style_after ts s ≡ after_acts colors acts s)

-- The numbers of a colour that the act sets are bytes.
abbrev pub FitsAct : StyleAct → Type 0
FitsAct (Colors c) = FitsColored c
FitsAct a = ⊤

-- The numbers of the colour, if there is one, are bytes.
abbrev pub FitsThere : Option Color → Type 0
FitsThere None = ⊤
FitsThere (Some c) = FitsSgr (sgr_of c)

-- From any style, the tokens of acts show as the acts paint, if all numbers of colours are bytes.
abbrev pub ActsShow : Type 0
ActsShow = (colors : ColorOutput) (acts : List StyleAct) (s : Style) → AllByRecursion FitsAct acts → ShowsAs colors (act_tokens colors acts) acts s

-- The acts that set a foreground and a background, if they are there.
abbrev pub colors_acts : Option Color → Option Color → List StyleAct
colors_acts f b = where_there ForegroundColor f ++ where_there BackgroundColor b

-- From any style, a foreground and a background that one sequence sets show as if set one after the other.
abbrev pub ColorsShow : Type 0
ColorsShow = (colors : ColorOutput) (f b : Option Color) (s : Style) → AllByRecursion FitsAct (colors_acts f b) → ShowsAs colors (colors_functions colors f b) (colors_acts f b) s

-- A styled content leaves the plain style plain exactly if it has an attribute, or no underline colour but the
-- terminal's own.
abbrev pub StyledEndsPlain : Type 0
StyledEndsPlain = (s : ContentStyle) (content : List ℕ) → AllByRecursion FitsAct (style_acts s)
    → (style_after (act_tokens Enabled (styled_acts s content)) plain ≡ plain) ↔ ((s.attributes.0 ≢ 0) ⊎ ((s.underline_color ≡ None) ⊎ (s.underline_color ≡ Some color.Reset)))

-- ---- some looks, from the plain style

-- On the plain style, the tokens of the acts show these characters, and the acts paint them.
abbrev pub Look : ColorOutput → List StyleAct → List (ℕ × Style) → Type 0
Look colors acts cells = (displayed (act_tokens colors acts) plain ≡ cells) × (painted colors acts plain ≡ cells)

-- The palette's colour 9 is Red.
abbrev pub IndexedHasNames : Type 0
IndexedHasNames = Look Enabled (Colors (ForegroundColor (color.AnsiValue 9)) ∷ Prints (codes "a") ∷ []) ((0x61, record plain { foreground = Some color.Red }) ∷ [])

-- A colour that is set while colours aren't written makes all plain.
abbrev pub DisabledMakesPlain : Type 0
DisabledMakesPlain = Look Disabled (Takes Bold ∷ Prints (codes "a") ∷ Colors (ForegroundColor color.Red) ∷ Prints (codes "b") ∷ []) ((0x61, record plain { bold = true }) ∷ (0x62, plain) ∷ [])

-- Of a set of Bold and Reset, Reset comes first and clears the colour.
abbrev pub ResetComesFirst : Type 0
ResetComesFirst = Look Enabled (Colors (ForegroundColor color.Red) ∷ (attribute_acts (of_list (Bold ∷ Reset ∷ [])) ++ (Prints (codes "x") ∷ []))) ((0x78, record plain { bold = true }) ∷ [])

-- Of two kinds of underline only the later one is shown.
abbrev pub OneUnderline : Type 0
OneUnderline = Look Enabled (Takes Underlined ∷ Takes Undercurled ∷ Prints (codes "x") ∷ []) ((0x78, record plain { underline = Some Curled }) ∷ [])

-- An underline's colour stays after the content that it was set for.
abbrev pub UnderlineColorStays : Type 0
UnderlineColorStays = Look Enabled (styled_acts (record no_style { underline_color = Some color.Green }) (codes "x") ++ (Prints (codes "y") ∷ []))
    ((0x78, record plain { underline_color = Some color.Green }) ∷ (0x79, record plain { underline_color = Some color.Green }) ∷ [])
