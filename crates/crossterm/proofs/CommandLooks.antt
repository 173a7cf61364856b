-- What commands write shows as they paint.
use Rattle.std.proofs.Common.{◌≡◌, ℕ, ◌+◌, ◌<◌, ◌==◌, true, false, cond, List, [], ◌∷◌, ◌++◌, refl, subst, sym, ap, ◌∙◌, append-nil, flat_map, get_or, length, map, string_bytes, take}
use Rattle.std.specs.List.{AllByRecursion}
use Rattle.std.specs.Str.{chars}
use Rattle.std.proofs.lemmas.List.{take_more}
use Rattle.std.proofs.lemmas.List.Concat.{flat_map-append}
use Rattle.crossterm_command.specs.Tokens.Token.{Char}
use Rattle.crossterm_command.specs.declared.color_output.ColorOutput.{ColorOutput}
use Rattle.crossterm_command.proofs.Readings.{all_joined}
use Rattle.crossterm_style.specs.declared.commands.colors.SetBackgroundColor.{SetBackgroundColor}
use Rattle.crossterm_style.specs.declared.commands.colors.SetColors.{SetColors}
use Rattle.crossterm_style.specs.declared.commands.colors.SetForegroundColor.{SetForegroundColor}
use Rattle.crossterm_style.specs.declared.commands.colors.SetUnderlineColor.{SetUnderlineColor}
use Rattle.crossterm_style.specs.declared.commands.styles.SetStyle.{SetStyle}
use Rattle.crossterm_style.specs.Attributes.{members}
use Rattle.crossterm_style.specs.Acts.{StyleAct}
use Rattle.crossterm_style.specs.Appearance.{FitsAct, ShowsAs}
use Rattle.crossterm_style.specs.Looks.{Style}
use Rattle.crossterm_style.proofs.Fitting.{takes_fit}
use Rattle.crossterm_style.proofs.ActLooks.{acts_show, colors_show, shows_joined}
use Rattle.crossterm.specs.declared.cursor.SetCursorStyle.{SetCursorStyle}
use Rattle.crossterm.specs.declared.cursor.SetCursorStyle.TheVariants as shape
use Rattle.crossterm.specs.declared.terminal.ClearType.{ClearType}
use Rattle.crossterm.specs.declared.terminal.ClearType.TheVariants as cleared
use Rattle.crossterm.specs.declared.command.any.AnyCommand.{AnyCommand}
use Rattle.crossterm.specs.declared.command.any.AnyCommand.TheVariants as any
use Rattle.crossterm.specs.Functions.{functions}
use Rattle.crossterm.specs.Painted.{acts}
use Rattle.crossterm.specs.Sequences.{by, clear, cursor_style, scroll}

-- ---- some that do nothing to the look

shape_shows : (colors : ColorOutput) (c : SetCursorStyle) (s : Style) → ShowsAs colors (cursor_style c) [] s
shape_shows colors shape.DefaultUserShape s = (refl, refl)
shape_shows colors c s = (refl, refl)

clear_shows : (colors : ColorOutput) (c : ClearType) (s : Style) → ShowsAs colors (clear c) [] s
clear_shows colors cleared.All s = (refl, refl)
clear_shows colors c s = (refl, refl)

up_shows : (colors : ColorOutput) (n : ℕ) (s : Style) → ShowsAs colors (scroll n "S") [] s
up_shows colors n s = elim (n == 0) as (λ b. ShowsAs colors (cond b [] (by n "S")) [] s) [ true ↦ (refl, refl) | false ↦ (refl, refl) ]

down_shows : (colors : ColorOutput) (n : ℕ) (s : Style) → ShowsAs colors (scroll n "T") [] s
down_shows colors n s = elim (n == 0) as (λ b. ShowsAs colors (cond b [] (by n "T")) [] s) [ true ↦ (refl, refl) | false ↦ (refl, refl) ]

-- ---- all commands

command_shows : {A : Type 0} (colors : ColorOutput) (c : AnyCommand A) → AllByRecursion FitsAct (acts c) → (s : Style) → ShowsAs colors (functions colors c) (acts c) s
command_shows colors (any.SetCursorStyle c) h s = shape_shows colors c s
command_shows colors (any.Clear c) h s = clear_shows colors c.0 s
command_shows colors (any.ScrollUp c) h s = up_shows colors c.0 s
command_shows colors (any.ScrollDown c) h s = down_shows colors c.0 s
command_shows {A = A} colors (any.SetForegroundColor c) h s = acts_show colors (acts {A = A} (any.SetForegroundColor c)) s h
command_shows {A = A} colors (any.SetBackgroundColor c) h s = acts_show colors (acts {A = A} (any.SetBackgroundColor c)) s h
command_shows {A = A} colors (any.SetUnderlineColor c) h s = acts_show colors (acts {A = A} (any.SetUnderlineColor c)) s h
command_shows colors (any.SetColors c) h s = colors_show colors c.0.foreground c.0.background s h
command_shows {A = A} colors (any.SetAttribute c) h s = acts_show colors (acts {A = A} (any.SetAttribute c)) s h
command_shows {A = A} colors (any.SetAttributes c) h s = acts_show colors (acts {A = A} (any.SetAttributes c)) s h
command_shows {A = A} colors (any.SetStyle c) h s = acts_show colors (acts {A = A} (any.SetStyle c)) s h
command_shows {A = A} colors (any.PrintStyledContent c) h s = acts_show colors (acts {A = A} (any.PrintStyledContent c)) s h
command_shows {A = A} colors (any.ResetColor c) h s = acts_show colors (acts {A = A} (any.ResetColor c)) s h
command_shows {A = A} colors (any.Print c) h s =
    let a : List StyleAct = acts {A = A} (any.Print c) in
    subst (λ ts. ShowsAs colors ts a s) (append-nil (map Char (chars (string_bytes c.0)))) (acts_show colors a s h)
command_shows colors c h s = (refl, refl)

-- ---- the numbers of colours

-- if the command has no colour, or isn't one of those that may have some
pub others_fit : {A : Type 0} (c : AnyCommand A) → ((d : SetForegroundColor) → c ≡ any.SetForegroundColor d → ⊥) → ((d : SetBackgroundColor) → c ≡ any.SetBackgroundColor d → ⊥)
    → ((d : SetUnderlineColor) → c ≡ any.SetUnderlineColor d → ⊥) → ((d : SetColors) → c ≡ any.SetColors d → ⊥) → ((d : SetStyle) → c ≡ any.SetStyle d → ⊥)
    → ((d : _) → c ≡ any.PrintStyledContent d → ⊥) → AllByRecursion FitsAct (acts c)
others_fit (any.SetForegroundColor c) f b u o s p = absurd (f c refl)
others_fit (any.SetBackgroundColor c) f b u o s p = absurd (b c refl)
others_fit (any.SetUnderlineColor c) f b u o s p = absurd (u c refl)
others_fit (any.SetColors c) f b u o s p = absurd (o c refl)
others_fit (any.SetStyle c) f b u o s p = absurd (s c refl)
others_fit (any.PrintStyledContent c) f b u o s p = absurd (p c refl)
others_fit (any.SetAttribute c) f b u o s p = (tt, tt)
others_fit (any.SetAttributes c) f b u o s p = takes_fit (members c.0.0)
others_fit (any.ResetColor c) f b u o s p = (tt, tt)
others_fit (any.Print c) f b u o s p = (tt, tt)
others_fit c f b u o s p = tt

-- ---- in a row

all_parted : {X : Type 0} (P : X → Type 0) (xs ys : List X) → AllByRecursion P (xs ++ ys) → AllByRecursion P xs × AllByRecursion P ys
all_parted P [] ys h = (tt, h)
all_parted P (x ∷ xs) ys h = let (a, b) = all_parted P xs ys h.1 in ((h.0, a), b)

fits_of : {A : Type 0} (c : AnyCommand A) (cs : List (AnyCommand A)) → AllByRecursion FitsAct (flat_map acts (c ∷ cs)) → AllByRecursion FitsAct (acts c) × AllByRecursion FitsAct (flat_map acts cs)
fits_of c cs h = all_parted FitsAct (acts c) (flat_map acts cs) h

pub commands_show : {A : Type 0} (colors : ColorOutput) (cs : List (AnyCommand A)) → AllByRecursion FitsAct (flat_map acts cs) → (s : Style) → ShowsAs colors (flat_map (functions colors) cs) (flat_map acts cs) s
commands_show colors [] h s = (refl, refl)
commands_show colors (c ∷ cs) h s =
    let (first, rest) = fits_of c cs h in
    shows_joined colors (functions colors c) (flat_map (functions colors) cs) (acts c) (flat_map acts cs) (command_shows colors c first) (commands_show colors cs rest) s

-- one more command whose colours are bytes
pub fits_more : {A : Type 0} (cs : List (AnyCommand A)) (i : ℕ) (c : AnyCommand A) → i < length cs → get_or cs i c ≡ c → AllByRecursion FitsAct (flat_map acts (take i cs)) → AllByRecursion FitsAct (acts c)
    → AllByRecursion FitsAct (flat_map acts (take (i + 1) cs))
fits_more cs i c l e before at =
    let same : flat_map acts (take (i + 1) cs) ≡ flat_map acts (take i cs) ++ acts c =
    ap (flat_map acts) (take_more cs i c l ∙ ap (λ y. take i cs ++ (y ∷ [])) e) ∙ flat_map-append acts (take i cs) (c ∷ []) ∙ ap (λ h. flat_map acts (take i cs) ++ h) (append-nil (acts c)) in
    subst (AllByRecursion FitsAct) (sym same) (all_joined FitsAct (flat_map acts (take i cs)) (acts c) before at)
