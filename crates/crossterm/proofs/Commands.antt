-- The functions of commands are well formed, so that their text reads as them.
use Rattle.std.proofs.Common.{◌≡◌, ℕ, ◌+◌, arith, ◌==◌, true, false, cond, List, [], ◌∷◌, ◌++◌, refl, codes, flat_map, string_bytes}
use Prim.Native.String.{String}
use Rattle.std.specs.Fmt.{decimal}
use Rattle.std.specs.Char.{encode_utf8}
use Rattle.std.specs.Str.{IsUtf8}
use Rattle.std.specs.List.{AllByRecursion}
use Rattle.std.proofs.lemmas.Str.{IsUtf8-append, IsUtf8-string_bytes}
use Rattle.crossterm_command.specs.Controls.{letter}
use Rattle.crossterm_command.specs.Tokens.{IsOscText, IsParameter, IsWellFormed, ReadsAs, text_of}
use Rattle.crossterm_command.proofs.Readings.{all_joined, all_parameters, control_formed, decimal_is_parameters, is_final, known_formed, parameters_at, printed_formed}
use Rattle.crossterm_command.specs.declared.color_output.ColorOutput.{ColorOutput}
use Rattle.crossterm_style.specs.declared.types.colored.Colored.TheVariants.{ForegroundColor, BackgroundColor, UnderlineColor}
use Rattle.crossterm_style.specs.Attributes.{members}
use Rattle.crossterm.specs.declared.cursor.SetCursorStyle.{SetCursorStyle}
use Rattle.crossterm.specs.declared.cursor.SetCursorStyle.TheVariants as shape
use Rattle.crossterm.specs.declared.terminal.ClearType.{ClearType}
use Rattle.crossterm.specs.declared.terminal.ClearType.TheVariants as cleared
use Rattle.crossterm.specs.declared.command.any.AnyCommand.{AnyCommand}
use Rattle.crossterm.specs.declared.command.any.AnyCommand.TheVariants as any
use Rattle.crossterm.specs.Functions.{IsReadable, functions}
use Rattle.crossterm.specs.Sequences.{by, clear, cursor_shape, cursor_style, scroll, set_title}
use Rattle.crossterm.proofs.Clipboards.{copy_formed, quiet_at}
use Rattle.crossterm.proofs.StyleReadings.{Formed, attribute_formed, attributes_plain, color_formed, colors_formed, style_plain, styled_plain, tokens_formed}

-- ---- some commands

by_formed : (n : ℕ) (final : String) → is_final (letter final) ≡ true → Formed (by n final)
by_formed n final f = control_formed (decimal n) final (decimal_is_parameters n) f

-- two numbers after a front
two_formed : (front : List ℕ) (m n : ℕ) → all_parameters front ≡ true → AllByRecursion IsParameter (front ++ (decimal m ++ (codes ";" ++ decimal n)))
two_formed front m n e =
    let rest = decimal m ++ (codes ";" ++ decimal n) in
    all_joined IsParameter front rest (parameters_at front e) (all_joined IsParameter (decimal m) (codes ";" ++ decimal n) (decimal_is_parameters m)
    (all_joined IsParameter (codes ";") (decimal n) (parameters_at (codes ";") refl) (decimal_is_parameters n)))

scroll_formed : (n : ℕ) (final : String) → is_final (letter final) ≡ true → Formed (scroll n final)
scroll_formed n final f = elim (n == 0) as (λ b. Formed (cond b [] (by n final))) [ true ↦ tt | false ↦ by_formed n final f ]

shape_known : (n : String) → all_parameters (codes n) ≡ true → Formed (cursor_shape n)
shape_known n e = ((parameters_at (codes n) e, ((omega arith, omega arith), tt), (omega arith, omega arith)), tt)

shape_formed : (s : SetCursorStyle) → Formed (cursor_style s)
shape_formed shape.DefaultUserShape = shape_known "0" refl
shape_formed shape.BlinkingBlock = shape_known "1" refl
shape_formed shape.SteadyBlock = shape_known "2" refl
shape_formed shape.BlinkingUnderScore = shape_known "3" refl
shape_formed shape.SteadyUnderScore = shape_known "4" refl
shape_formed shape.BlinkingBar = shape_known "5" refl
shape_formed shape.SteadyBar = shape_known "6" refl

clear_formed : (c : ClearType) → Formed (clear c)
clear_formed cleared.All = known_formed (clear cleared.All) refl
clear_formed c = known_formed (clear c) refl

front_utf8 : IsUtf8 (codes "0;")
unfolding encode_utf8
front_utf8 = (codes "0;", (refl, refl))

title_formed : (title : List ℕ) → IsUtf8 title → AllByRecursion IsOscText title → Formed (set_title title)
title_formed title u a = ((IsUtf8-append (codes "0;") title front_utf8 u, (quiet_at 48 refl, (quiet_at 59 refl, a))), tt)

-- ---- all commands

pub command_formed : {A : Type 0} (colors : ColorOutput) (c : AnyCommand A) → IsReadable c → Formed (functions colors c)
command_formed colors (any.MoveTo c) r = control_formed _ "H" (two_formed [] (c.1 + 1) (c.0 + 1) refl) refl
command_formed colors (any.MoveToColumn c) r = by_formed (c.0 + 1) "G" refl
command_formed colors (any.MoveToRow c) r = by_formed (c.0 + 1) "d" refl
command_formed colors (any.MoveToNextLine c) r = by_formed c.0 "E" refl
command_formed colors (any.MoveToPreviousLine c) r = by_formed c.0 "F" refl
command_formed colors (any.MoveUp c) r = by_formed c.0 "A" refl
command_formed colors (any.MoveDown c) r = by_formed c.0 "B" refl
command_formed colors (any.MoveRight c) r = by_formed c.0 "C" refl
command_formed colors (any.MoveLeft c) r = by_formed c.0 "D" refl
command_formed colors (any.SetCursorStyle c) r = shape_formed c
command_formed colors (any.Clear c) r = clear_formed c.0
command_formed colors (any.ScrollUp c) r = scroll_formed c.0 "S" refl
command_formed colors (any.ScrollDown c) r = scroll_formed c.0 "T" refl
command_formed colors (any.SetSize c) r = control_formed (codes "8;" ++ (decimal c.1 ++ (codes ";" ++ decimal c.0))) "t" (two_formed (codes "8;") c.1 c.0 refl) refl
command_formed colors (any.SetTitle c) r = title_formed (string_bytes c.0) (IsUtf8-string_bytes c.0) r
command_formed colors (any.PushKeyboardEnhancementFlags c) r = control_formed (codes ">" ++ decimal c.0.0) "u" (all_joined IsParameter (codes ">") (decimal c.0.0) (parameters_at (codes ">") refl) (decimal_is_parameters c.0.0)) refl
command_formed colors (any.SetForegroundColor c) r = color_formed colors (ForegroundColor c.0)
command_formed colors (any.SetBackgroundColor c) r = color_formed colors (BackgroundColor c.0)
command_formed colors (any.SetUnderlineColor c) r = color_formed colors (UnderlineColor c.0)
command_formed colors (any.SetColors c) r = colors_formed colors c.0.foreground c.0.background
command_formed colors (any.SetAttribute c) r = attribute_formed c.0
command_formed colors (any.SetAttributes c) r = tokens_formed colors _ (attributes_plain (members c.0.0))
command_formed colors (any.SetStyle c) r = tokens_formed colors _ (style_plain c.0)
command_formed colors (any.PrintStyledContent c) r = tokens_formed colors _ (styled_plain c.0.style _ (printed_formed (string_bytes c.0.content) (IsUtf8-string_bytes c.0.content) r))
command_formed colors (any.CopyToClipboard c) r = copy_formed c.content.items c.destination.0.items r
command_formed colors (any.Print c) r = printed_formed (string_bytes c.0) (IsUtf8-string_bytes c.0) r
command_formed colors c r = known_formed (functions colors c) refl

commands_formed : {A : Type 0} (colors : ColorOutput) (cs : List (AnyCommand A)) → AllByRecursion IsReadable cs → Formed (flat_map (functions colors) cs)
commands_formed colors [] a = tt
commands_formed colors (c ∷ cs) a = all_joined IsWellFormed (functions colors c) (flat_map (functions colors) cs) (command_formed colors c a.0) (commands_formed colors cs a.1)

-- The text of commands reads as their functions.
pub commands_read : {A : Type 0} (colors : ColorOutput) (cs : List (AnyCommand A)) → AllByRecursion IsReadable cs → ReadsAs (text_of (flat_map (functions colors) cs)) (flat_map (functions colors) cs)
commands_read colors cs a = (commands_formed colors cs a, refl)
