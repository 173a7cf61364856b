-- What commands do to the look of the text, by their fields.
use Rattle.std.specs.Prelude.{ℕ, List, [], ◌∷◌, Option, string_bytes}
use Rattle.std.specs.Io.KnownBytes.{Appends}
use Rattle.std.specs.Str.{chars}
use Rattle.crossterm_command.specs.Tokens.{Token, ReadsAs}
use Rattle.crossterm_command.specs.declared.color_output.ColorOutput.{ColorOutput}
use Rattle.crossterm_style.specs.declared.types.attribute.Attribute.TheVariants.{Reset}
use Rattle.crossterm_style.specs.declared.types.colored.Colored.TheVariants.{ForegroundColor, BackgroundColor, UnderlineColor}
use Rattle.crossterm_style.specs.Acts.{StyleAct, attribute_acts, style_acts, styled_acts}
use Rattle.crossterm_style.specs.Acts.StyleAct.{Prints, Colors, Takes}
use Rattle.crossterm_style.specs.Appearance.{ShowsAs, colors_acts}
use Rattle.crossterm_style.specs.Looks.{Style}
use Rattle.crossterm.specs.declared.command.any.AnyCommand.{AnyCommand}
use Rattle.crossterm.specs.declared.command.any.AnyCommand.TheVariants as any

-- What a command prints and sets; no other command changes the look.
abbrev pub acts : {A : Type 0} → AnyCommand A → List StyleAct
acts (any.SetForegroundColor c) = Colors (ForegroundColor c.0) ∷ []
acts (any.SetBackgroundColor c) = Colors (BackgroundColor c.0) ∷ []
acts (any.SetUnderlineColor c) = Colors (UnderlineColor c.0) ∷ []
acts (any.SetColors c) = colors_acts c.0.foreground c.0.background
acts (any.SetAttribute c) = Takes c.0 ∷ []
acts (any.SetAttributes c) = attribute_acts c.0.0
acts (any.SetStyle c) = style_acts c.0
acts (any.PrintStyledContent c) = styled_acts c.0.style (chars (string_bytes c.0.content))
acts (any.ResetColor c) = Takes Reset ∷ []
acts (any.Print c) = Prints (chars (string_bytes c.0)) ∷ []
acts c = []

-- Known bytes grew by some that read as tokens; from any style, these show what the acts paint.
abbrev pub AppendsShown : Option (List ℕ) → Option (List ℕ) → ColorOutput → List StyleAct → Type 0
AppendsShown old new colors all = (bytes : List ℕ) × Appends old new bytes × (ts : List Token) × ReadsAs bytes ts × ((s : Style) → ShowsAs colors ts all s)
