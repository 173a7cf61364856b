-- The tokens that each command writes, by its fields.
use Rattle.std.specs.Prelude.{◌≡◌, ℕ, ◌+◌, ⊤, List, Option, map, codes, string_bytes}
use Rattle.std.specs.Str.{chars}
use Rattle.std.specs.List.{AllByRecursion}
use Rattle.std.specs.Io.KnownBytes.{Appends}
use Rattle.crossterm_command.specs.Controls.{control, private, reset, set}
use Rattle.crossterm_command.specs.Tokens.{Token, IsPlain, IsOscText, ReadsAs}
use Rattle.crossterm_command.specs.Tokens.Token.{Char}
use Rattle.crossterm_command.specs.declared.color_output.ColorOutput.{ColorOutput}
use Rattle.crossterm_style.specs.declared.types.colored.Colored.TheVariants.{ForegroundColor, BackgroundColor, UnderlineColor}
use Rattle.crossterm_style.specs.Acts.{attribute_acts, style_acts, styled_acts}
use Rattle.crossterm_style.specs.Styles.{attribute_functions, color_functions, colors_functions, reset_functions, act_tokens}
use Rattle.crossterm.specs.declared.command.any.AnyCommand.{AnyCommand}
use Rattle.crossterm.specs.declared.command.any.AnyCommand.TheVariants as any
use Rattle.crossterm.specs.Clipboard.{AreReadable, copy_functions}
use Rattle.crossterm.specs.Sequences.{by, clear, cursor_style, disable_mouse, enable_mouse, move_to, push_flags, scroll, set_size, set_title}

-- The tokens that a command writes.
abbrev pub functions : {A : Type 0} → ColorOutput → AnyCommand A → List Token
functions colors (any.MoveTo c) = move_to c.0 c.1
functions colors (any.MoveToColumn c) = by (c.0 + 1) "G"
functions colors (any.MoveToRow c) = by (c.0 + 1) "d"
functions colors (any.MoveToNextLine c) = by c.0 "E"
functions colors (any.MoveToPreviousLine c) = by c.0 "F"
functions colors (any.MoveUp c) = by c.0 "A"
functions colors (any.MoveDown c) = by c.0 "B"
functions colors (any.MoveRight c) = by c.0 "C"
functions colors (any.MoveLeft c) = by c.0 "D"
functions colors (any.SavePosition c) = private "7"
functions colors (any.RestorePosition c) = private "8"
functions colors (any.Hide c) = reset "25"
functions colors (any.Show c) = set "25"
functions colors (any.EnableBlinking c) = set "12"
functions colors (any.DisableBlinking c) = reset "12"
functions colors (any.SetCursorStyle c) = cursor_style c
functions colors (any.DisableLineWrap c) = reset "7"
functions colors (any.EnableLineWrap c) = set "7"
functions colors (any.EnterAlternateScreen c) = set "1049"
functions colors (any.LeaveAlternateScreen c) = reset "1049"
functions colors (any.Clear c) = clear c.0
functions colors (any.ScrollUp c) = scroll c.0 "S"
functions colors (any.ScrollDown c) = scroll c.0 "T"
functions colors (any.SetSize c) = set_size c.0 c.1
functions colors (any.SetTitle c) = set_title (string_bytes c.0)
functions colors (any.BeginSynchronizedUpdate c) = set "2026"
functions colors (any.EndSynchronizedUpdate c) = reset "2026"
functions colors (any.EnableMouseCapture c) = enable_mouse
functions colors (any.DisableMouseCapture c) = disable_mouse
functions colors (any.EnableFocusChange c) = set "1004"
functions colors (any.DisableFocusChange c) = reset "1004"
functions colors (any.EnableBracketedPaste c) = set "2004"
functions colors (any.DisableBracketedPaste c) = reset "2004"
functions colors (any.PushKeyboardEnhancementFlags c) = push_flags c.0.0
functions colors (any.PopKeyboardEnhancementFlags c) = control (codes "<1") "u"
functions colors (any.SetForegroundColor c) = color_functions colors (ForegroundColor c.0)
functions colors (any.SetBackgroundColor c) = color_functions colors (BackgroundColor c.0)
functions colors (any.SetUnderlineColor c) = color_functions colors (UnderlineColor c.0)
functions colors (any.SetColors c) = colors_functions colors c.0.foreground c.0.background
functions colors (any.SetAttribute c) = attribute_functions c.0
functions colors (any.SetAttributes c) = act_tokens colors (attribute_acts c.0.0)
functions colors (any.SetStyle c) = act_tokens colors (style_acts c.0)
functions colors (any.PrintStyledContent c) = act_tokens colors (styled_acts c.0.style (chars (string_bytes c.0.content)))
functions colors (any.ResetColor c) = reset_functions
functions colors (any.CopyToClipboard c) = copy_functions c.content.items c.destination.0.items
functions colors (any.Print c) = map Char (chars (string_bytes c.0))

-- A printed text has no escape; a title and the letters of a clipboard's destinations have no escape and no bell.
abbrev pub IsReadable : {A : Type 0} → AnyCommand A → Type 0
IsReadable (any.SetTitle c) = AllByRecursion IsOscText (string_bytes c.0)
IsReadable (any.PrintStyledContent c) = AllByRecursion IsPlain (chars (string_bytes c.0.content))
IsReadable (any.CopyToClipboard c) = AreReadable c.destination.0.items
IsReadable (any.Print c) = AllByRecursion IsPlain (chars (string_bytes c.0))
IsReadable c = ⊤

-- Known bytes grew by some that read as these tokens, and as no others.
abbrev pub AppendsReading : Option (List ℕ) → Option (List ℕ) → List Token → Type 0
AppendsReading old new ts = (bytes : List ℕ) × Appends old new bytes × ReadsAs bytes ts × ((us : List Token) → ReadsAs bytes us → us ≡ ts)
