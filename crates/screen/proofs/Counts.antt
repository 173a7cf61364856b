-- How many characters strokes print.
use Rattle.std.proofs.Common.{◌≡◌, inl, inr, ℕ, ◌+◌, ◌<◌, Bool, true, false, List, [], ◌∷◌, ◌++◌, Option, Some, None, refl, sym, ap, ◌∙◌, subst, arith, append-nil, length, map, take, get_or}
use Rattle.std.specs.List.{AllByRecursion}
use Rattle.std.proofs.lemmas.List.{take_more}
use Rattle.std.proofs.lemmas.List.Concat.{flat_map-append}
use Rattle.crossterm_command.specs.Tokens.{Token}
use Rattle.crossterm_command.specs.Tokens.Token.{Char, Csi, Osc, Private}
use Rattle.crossterm_command.specs.declared.color_output.ColorOutput.{ColorOutput}
use Rattle.crossterm_command.specs.declared.color_output.ColorOutput.TheVariants.{Enabled, Disabled}
use Rattle.crossterm_style.specs.declared.content_style.ContentStyle.{ContentStyle}
use Rattle.crossterm_style.specs.Acts.{StyleAct, style_acts}
use Rattle.crossterm_style.specs.Acts.StyleAct.{Prints, Colors, Takes}
use Rattle.crossterm_style.specs.Styles.{no_style, act_tokens}
use Rattle.screen.specs.Cells.{Cell}
use Rattle.screen.specs.declared.settings.Setting.{Setting}
use Rattle.screen.specs.declared.settings.Setting.TheVariants as setting
use Rattle.screen.specs.declared.starts.Start.{Start}
use Rattle.screen.specs.declared.starts.Start.TheVariants as start
use Rattle.screen.specs.declared.strokes.Stroke.{Stroke}
use Rattle.screen.specs.declared.strokes.Stroke.TheVariants as stroke
use Rattle.screen.specs.Drawings.{DifferAt, characters_of, printed_count}
use Rattle.screen.specs.Updates.{HasToBePrinted}
use Rattle.screen.specs.inside.Strokes.{cell_strokes, color_tokens, cursor_strokes, first_strokes, last_strokes, stop_strokes, tokens, tokens_of}
use Rattle.screen.proofs.Runs.{SetsStyle, style_sets}

-- ---- tokens in a row

printed_joined : (ts us : List Token) → printed_count (ts ++ us) ≡ printed_count ts + printed_count us
printed_joined [] us = omega arith
printed_joined (Char c ∷ ts) us = omega (arith, printed_joined ts us)
printed_joined (Csi a b f ∷ ts) us = printed_joined ts us
printed_joined (Osc t e ∷ ts) us = printed_joined ts us
printed_joined (Private b ∷ ts) us = printed_joined ts us

pub strokes_printed : (colors : ColorOutput) (xs ys : List Stroke) → printed_count (tokens_of colors (xs ++ ys)) ≡ printed_count (tokens_of colors xs) + printed_count (tokens_of colors ys)
strokes_printed colors xs ys = ap printed_count (flat_map-append (tokens colors) xs ys) ∙ printed_joined (tokens_of colors xs) (tokens_of colors ys)

tokens_print : (colors : ColorOutput) (acts : List StyleAct) → AllByRecursion SetsStyle acts → printed_count (act_tokens colors acts) ≡ 0
tokens_print colors [] h = refl
tokens_print colors (Prints cs ∷ acts) h = absurd h.0
tokens_print colors (Colors c ∷ acts) h = tokens_print colors acts h.1
tokens_print colors (Takes a ∷ acts) h = tokens_print colors acts h.1

style_prints : (colors : ColorOutput) (s : ContentStyle) (ss : List Stroke) → printed_count (tokens_of colors (stroke.Style s ∷ ss)) ≡ printed_count (tokens_of colors ss)
style_prints colors s ss =
    printed_joined (tokens colors (stroke.Style s)) (tokens_of colors ss) ∙ ap (λ n. n + printed_count (tokens_of colors ss)) (tokens_print colors (style_acts s) (style_sets s)) ∙ (omega arith)

color_prints : (colors : ColorOutput) (change : ContentStyle) → printed_count (color_tokens colors change) ≡ 0
color_prints Enabled change = tokens_print Enabled (style_acts change) (style_sets change)
color_prints Disabled change = refl

colors_print : (colors : ColorOutput) (change : ContentStyle) (ss : List Stroke) → printed_count (tokens_of colors (stroke.Colors change ∷ ss)) ≡ printed_count (tokens_of colors ss)
colors_print colors change ss =
    printed_joined (color_tokens colors change) (tokens_of colors ss) ∙ ap (λ n. n + printed_count (tokens_of colors ss)) (color_prints colors change) ∙ (omega arith)

marks_printed : (marks : List ℕ) → printed_count (map Char marks) ≡ length marks
marks_printed [] = refl
marks_printed (m ∷ marks) = ap (λ n. n + 1) (marks_printed marks) ∙ (omega arith)

pub cell_printed : (colors : ColorOutput) (c : Cell) → printed_count (tokens_of colors (stroke.Print c.symbol c.marks ∷ [])) ≡ characters_of c
cell_printed colors c = ap printed_count (append-nil (tokens colors (stroke.Print c.symbol c.marks))) ∙ ap (λ n. n + 1) (marks_printed c.marks)

pub cell_prints : (colors : ColorOutput) (there : Bool) (how : Setting) (column row : ℕ) (c : Cell) → printed_count (tokens_of colors (cell_strokes there how column row c)) ≡ characters_of c
cell_prints colors true setting.Kept column row c = cell_printed colors c
cell_prints colors true (setting.Colors change) column row c = colors_print colors change (stroke.Print c.symbol c.marks ∷ []) ∙ cell_printed colors c
cell_prints colors true (setting.Whole s) column row c = style_prints colors s (stroke.Print c.symbol c.marks ∷ []) ∙ cell_printed colors c
cell_prints colors false setting.Kept column row c = cell_printed colors c
cell_prints colors false (setting.Colors change) column row c = colors_print colors change (stroke.Print c.symbol c.marks ∷ []) ∙ cell_printed colors c
cell_prints colors false (setting.Whole s) column row c = style_prints colors s (stroke.Print c.symbol c.marks ∷ []) ∙ cell_printed colors c

pub last_prints : (colors : ColorOutput) (cursor : Option (ℕ × ℕ)) → printed_count (tokens_of colors (last_strokes cursor)) ≡ 0
last_prints colors None = style_prints colors no_style (cursor_strokes None ++ (stroke.End ∷ []))
last_prints colors (Some place) = style_prints colors no_style (cursor_strokes (Some place) ++ (stroke.End ∷ []))

pub first_prints : (colors : ColorOutput) (known : Start) → printed_count (tokens_of colors (first_strokes known)) ≡ 0
first_prints colors start.Nothing = style_prints colors no_style (stroke.Erase ∷ [])
first_prints colors start.Cells = refl
first_prints colors (start.All at) = refl

pub stop_prints : (colors : ColorOutput) (there : Bool) (how : Setting) (column : ℕ) → printed_count (tokens_of colors (stop_strokes there how column)) ≡ 0
stop_prints colors true setting.Kept column = refl
stop_prints colors true (setting.Colors change) column = colors_print colors change []
stop_prints colors true (setting.Whole s) column = style_prints colors s []
stop_prints colors false setting.Kept column = refl
stop_prints colors false (setting.Colors change) column = colors_print colors change []
stop_prints colors false (setting.Whole s) column = style_prints colors s []

-- ---- places that differ

differ_same : (xs ys : List Cell) (x y : Cell) (n : ℕ) → (HasToBePrinted x y → ⊥) → DifferAt xs ys n → DifferAt (xs ++ x ∷ []) (ys ++ y ∷ []) n
differ_same [] [] x y n e d = inl (e, d)
differ_same [] (b ∷ ys) x y n e d = absurd d
differ_same (a ∷ xs) [] x y n e d = absurd d
differ_same (a ∷ xs) (b ∷ ys) x y n e d = elim d [
  | inl p ↦ inl (p.0, differ_same xs ys x y n e p.1)
  | inr q ↦ inr (q.0, q.1, q.2, differ_same xs ys x y q.1 e q.3)
]

differ_more : (xs ys : List Cell) (x y : Cell) (n : ℕ) → HasToBePrinted x y → DifferAt xs ys n → DifferAt (xs ++ x ∷ []) (ys ++ y ∷ []) (n + characters_of y)
differ_more [] [] x y n e d = inr (e, n, refl, d)
differ_more [] (b ∷ ys) x y n e d = absurd d
differ_more (a ∷ xs) [] x y n e d = absurd d
differ_more (a ∷ xs) (b ∷ ys) x y n e d = elim d [
  | inl p ↦ inl (p.0, differ_more xs ys x y n e p.1)
  | inr q ↦ inr (q.0, q.1 + characters_of y, ap (λ k. k + characters_of y) q.2 ∙ (omega arith), differ_more xs ys x y q.1 e q.3)
]

grown : (xs : List Cell) (k : ℕ) (x : Cell) → k < length xs → get_or xs k x ≡ x → take (k + 1) xs ≡ take k xs ++ x ∷ []
grown xs k x lt e = take_more xs k x lt ∙ ap (λ y. take k xs ++ (y ∷ [])) e

-- One place more for which nothing is printed.
pub same_at : (before after : List Cell) (k n : ℕ) (b c : Cell) → k < length before → k < length after → get_or before k b ≡ b → get_or after k c ≡ c → (HasToBePrinted b c → ⊥)
    → DifferAt (take k before) (take k after) n → DifferAt (take (k + 1) before) (take (k + 1) after) n
same_at before after k n b c lb la eb ec e d =
    subst (λ l. DifferAt l (take (k + 1) after) n) (sym (grown before k b lb eb))
    (subst (λ l. DifferAt (take k before ++ b ∷ []) l n) (sym (grown after k c la ec)) (differ_same (take k before) (take k after) b c n e d))

-- One place more for which a character is printed.
pub other_at : (before after : List Cell) (k n : ℕ) (b c : Cell) → k < length before → k < length after → get_or before k b ≡ b → get_or after k c ≡ c → HasToBePrinted b c
    → DifferAt (take k before) (take k after) n → DifferAt (take (k + 1) before) (take (k + 1) after) (n + characters_of c)
other_at before after k n b c lb la eb ec e d =
    subst (λ l. DifferAt l (take (k + 1) after) (n + characters_of c)) (sym (grown before k b lb eb))
    (subst (λ l. DifferAt (take k before ++ b ∷ []) l (n + characters_of c)) (sym (grown after k c la ec)) (differ_more (take k before) (take k after) b c n e d))
