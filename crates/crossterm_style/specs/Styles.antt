-- The tokens that style commands write, by the fields of the commands.
use Rattle.std.specs.Prelude.{ℕ, List, [], ◌++◌, Option, Some, None, codes, flat_map, map}
use Rattle.std.specs.Fmt.{◌++?◌}
use Rattle.crossterm_command.specs.Controls.{control}
use Rattle.crossterm_command.specs.Tokens.{Token, text_of}
use Rattle.crossterm_command.specs.Tokens.Token.{Char}
use Rattle.crossterm_command.specs.declared.color_output.ColorOutput.{ColorOutput}
use Rattle.crossterm_style.specs.declared.types.attribute.Attribute.{Attribute}
use Rattle.crossterm_style.specs.declared.types.color.Color.{Color}
use Rattle.crossterm_style.specs.declared.types.colored.Colored.{Colored}
use Rattle.crossterm_style.specs.declared.types.colored.Colored.TheVariants.{ForegroundColor, BackgroundColor}
use Rattle.crossterm_style.specs.declared.content_style.ContentStyle.{ContentStyle}
use Rattle.crossterm_style.specs.Acts.{StyleAct, end_acts, style_acts}
use Rattle.crossterm_style.specs.Acts.StyleAct.{Prints, Colors, Takes}
use Rattle.crossterm_style.specs.Attributes.{code_of}
use Rattle.crossterm_style.specs.Colors.{colored_text}

-- The style without colours and attributes.
abbrev pub no_style : ContentStyle
no_style = record { foreground_color = None; background_color = None; underline_color = None; attributes = record { 0 = 0 } }

-- SGR with the parameters of a colour at its place.
abbrev pub color_functions : ColorOutput → Colored → List Token
color_functions colors c = control (colored_text colors c) "m"

-- One SGR for a foreground and a background, for one of them, or none if neither is there.
abbrev pub colors_functions : ColorOutput → Option Color → Option Color → List Token
colors_functions colors (Some f) (Some b) = control (colored_text colors (ForegroundColor f) ++ (codes ";" ++ colored_text colors (BackgroundColor b))) "m"
colors_functions colors (Some f) None = color_functions colors (ForegroundColor f)
colors_functions colors None (Some b) = color_functions colors (BackgroundColor b)
colors_functions colors None None = []

-- SGR with an attribute's parameter.
abbrev pub attribute_functions : Attribute → List Token
attribute_functions a = control (code_of a) "m"

-- SGR with the parameter 0, which resets all colours and attributes.
abbrev pub reset_functions : List Token
reset_functions = control (codes "0") "m"

-- The tokens of an act: its characters, or SGR with a colour or an attribute.
abbrev pub act_functions : ColorOutput → StyleAct → List Token
act_functions colors (Prints cs) = map Char cs
act_functions colors (Colors c) = color_functions colors c
act_functions colors (Takes a) = attribute_functions a

-- The tokens of acts, one after another.
abbrev pub act_tokens : ColorOutput → List StyleAct → List Token
act_tokens colors acts = flat_map (act_functions colors) acts

-- The text of a styled content: the style, the content's text, and the end of the style. `None` if the content's text
-- isn't known.
abbrev pub styled_text : ColorOutput → ContentStyle → Option (List ℕ) → Option (List ℕ)
styled_text colors s content = Some (text_of (act_tokens colors (style_acts s))) ++? content ++? Some (text_of (act_tokens colors (end_acts s)))
