-- How few moves and styles a frame has.
use Rattle.std.proofs.Common.{◌≡◌, ◌↔◌, inl, inr, ℕ, suc, ◌+◌, ◌*◌, ◌<◌, ◌≤◌, ◌==◌, ◌&&◌, ◌||◌, not, Bool, true, false, cond, List, [], ◌∷◌, ◌++◌, Option, Some, None, refl, sym, ap, ◌∙◌, subst, arith, append_assoc, codes, bytes_eq, get_or, length, map, take}
use Rattle.std.specs.List.{AllByRecursion}
use Rattle.std.proofs.lemmas.List.{length-append, length-map, length-take-le, take_all, take_more}
use Rattle.std.proofs.lemmas.List.Sums.{count_by-le-length, length-filter}
use Rattle.std.proofs.lemmas.List.Concat.{flat_map-append}
use Rattle.crossterm_command.specs.Tokens.{Token}
use Rattle.crossterm_command.specs.Tokens.Token.{Char, Csi}
use Rattle.crossterm_command.specs.declared.color_output.ColorOutput.{ColorOutput}
use Rattle.crossterm_command.specs.declared.color_output.ColorOutput.TheVariants.{Enabled, Disabled}
use Rattle.crossterm_command.proofs.Readings.{all_joined}
use Rattle.crossterm_style.specs.declared.content_style.ContentStyle.{ContentStyle}
use Rattle.crossterm_style.specs.Acts.{StyleAct, style_acts, where_there}
use Rattle.crossterm_style.specs.Acts.StyleAct.{Prints, Colors, Takes}
use Rattle.crossterm_style.specs.Attributes.{all_attributes, has_attribute, members}
use Rattle.crossterm_style.specs.Styles.{no_style, act_tokens}
use Rattle.crossterm_style.specs.declared.types.color.Color.{Color}
use Rattle.crossterm_style.specs.declared.types.colored.Colored.{Colored}
use Rattle.crossterm_style.specs.declared.types.colored.Colored.TheVariants.{ForegroundColor, BackgroundColor, UnderlineColor}
use Rattle.screen.specs.declared.settings.Setting.{Setting}
use Rattle.screen.specs.declared.settings.Setting.TheVariants as setting
use Rattle.screen.specs.declared.starts.Start.{Start}
use Rattle.screen.specs.declared.starts.Start.TheVariants as start
use Rattle.screen.specs.declared.strokes.Stroke.{Stroke}
use Rattle.screen.specs.declared.strokes.Stroke.TheVariants as stroke
use Rattle.screen.specs.Cells.{Cell, blank, last_place}
use Rattle.screen.specs.Drawings.{DifferAt, printed_count}
use Rattle.screen.specs.Grids.{right_of}
use Rattle.screen.specs.Strips.{IsLean, cursor_stops}
use Rattle.screen.specs.Updates.{ArePrinted, HasSameStyle, HasToBePrinted, IsBeside, IsBetween, IsOneUpdate, IsSparing, Placed, HasRuns, HasRunsFrom, begin_update, begins_with_style, changes, end_moves, end_others, end_styles, how_many, is_move, is_other, is_style, longest_style}
use Rattle.screen.specs.inside.Scans.{BeginsUpdate, Continues, IsAt, IsSet, Spares, Sparing, first_others, first_styles, known_cursor, known_style, start_by}
use Rattle.screen.specs.inside.Settings.{Sets, is_kept}
use Rattle.screen.specs.inside.Strokes.{IsInner, again_strokes, cell_strokes, color_tokens, cursor_strokes, first_strokes, is_move_stroke, is_other_stroke, is_style_stroke, last_strokes, stop_strokes, tokens, tokens_of}
use Rattle.screen.proofs.Runs.{SetsStyle, style_sets}
use Rattle.screen.proofs.Crossings.{Comes, again_inner, again_none}
use Rattle.screen.proofs.Recolorings.{kept_there}

-- ---- counts

pub how_many_joined : {X : Type 0} (kind : X → Bool) (xs ys : List X) → how_many kind (xs ++ ys) ≡ how_many kind xs + how_many kind ys
how_many_joined kind [] ys = omega arith
how_many_joined kind (x ∷ xs) ys =
    let more = how_many_joined kind xs ys in
    elim (kind x) as (λ b. cond b (how_many kind (xs ++ ys) + 1) (how_many kind (xs ++ ys)) ≡ cond b (how_many kind xs + 1) (how_many kind xs) + how_many kind ys) [
      | true ↦ omega (arith, more)
      | false ↦ more
    ]

-- If none is of the kind, the count is 0.
none_of : {X : Type 0} (kind : X → Bool) (xs : List X) → AllByRecursion (λ x. kind x ≡ false) xs → how_many kind xs ≡ 0
none_of kind [] a = refl
none_of kind (x ∷ xs) a = ap (λ b. cond b (how_many kind xs + 1) (how_many kind xs)) a.0 ∙ none_of kind xs a.1

-- ---- the tokens of a style

-- What holds of each SGR holds of each token of a style.
tokens_all : (P : Token → Type 0) → ((text : List ℕ) → P (Csi text [] 0x6D)) → (colors : ColorOutput) (acts : List StyleAct) → AllByRecursion SetsStyle acts → AllByRecursion P (act_tokens colors acts)
tokens_all P p colors [] h = tt
tokens_all P p colors (Prints cs ∷ acts) h = absurd h.0
tokens_all P p colors (Colors c ∷ acts) h = (p _, tokens_all P p colors acts h.1)
tokens_all P p colors (Takes a ∷ acts) h = (p _, tokens_all P p colors acts h.1)

pub style_all : (P : Token → Type 0) → ((text : List ℕ) → P (Csi text [] 0x6D)) → (colors : ColorOutput) (s : ContentStyle) → AllByRecursion P (tokens colors (stroke.Style s))
style_all P p colors s = (p _, tokens_all P p colors (style_acts s) (style_sets s))

pub color_all : (P : Token → Type 0) → ((text : List ℕ) → P (Csi text [] 0x6D)) → (colors : ColorOutput) (change : ContentStyle) → AllByRecursion P (color_tokens colors change)
color_all P p Enabled change = tokens_all P p Enabled (style_acts change) (style_sets change)
color_all P p Disabled change = tt

-- Characters, if each is so.
pub chars_all : (P : Token → Type 0) → ((c : ℕ) → P (Char c)) → (text : List ℕ) → AllByRecursion P (map Char text)
chars_all P p [] = tt
chars_all P p (c ∷ text) = (p c, chars_all P p text)

-- ---- strokes for tokens

of_strokes : (kind : Token → Bool) (sort : Stroke → Bool) → ((colors : ColorOutput) (s : Stroke) → how_many kind (tokens colors s) ≡ how_many sort (s ∷ []))
    → (colors : ColorOutput) (strokes : List Stroke) → how_many kind (tokens_of colors strokes) ≡ how_many sort strokes
of_strokes kind sort each colors [] = refl
of_strokes kind sort each colors (s ∷ strokes) =
    how_many_joined kind (tokens colors s) (tokens_of colors strokes) ∙ ap (λ n. n + how_many kind (tokens_of colors strokes)) (each colors s)
    ∙ ap (λ n. how_many sort (s ∷ []) + n) (of_strokes kind sort each colors strokes) ∙ sym (how_many_joined sort (s ∷ []) strokes)

moves_each : (colors : ColorOutput) (s : Stroke) → how_many is_move (tokens colors s) ≡ how_many is_move_stroke (s ∷ [])
moves_each colors stroke.Begin = refl
moves_each colors stroke.End = refl
moves_each colors stroke.Erase = refl
moves_each colors (stroke.Move column row) = refl
moves_each colors (stroke.Style s) = none_of is_move (tokens colors (stroke.Style s)) (style_all (λ t. is_move t ≡ false) (λ text. refl) colors s)
moves_each colors (stroke.Colors change) = none_of is_move (color_tokens colors change) (color_all (λ t. is_move t ≡ false) (λ text. refl) colors change)
moves_each colors (stroke.Print c marks) = none_of is_move (tokens colors (stroke.Print c marks)) (refl, chars_all (λ t. is_move t ≡ false) (λ m. refl) marks)
moves_each colors stroke.Show = refl
moves_each colors stroke.Hide = refl

others_each : (colors : ColorOutput) (s : Stroke) → how_many is_other (tokens colors s) ≡ how_many is_other_stroke (s ∷ [])
others_each colors stroke.Begin = refl
others_each colors stroke.End = refl
others_each colors stroke.Erase = refl
others_each colors (stroke.Move column row) = refl
others_each colors (stroke.Style s) = none_of is_other (tokens colors (stroke.Style s)) (style_all (λ t. is_other t ≡ false) (λ text. refl) colors s)
others_each colors (stroke.Colors change) = none_of is_other (color_tokens colors change) (color_all (λ t. is_other t ≡ false) (λ text. refl) colors change)
others_each colors (stroke.Print c marks) = none_of is_other (tokens colors (stroke.Print c marks)) (refl, chars_all (λ t. is_other t ≡ false) (λ m. refl) marks)
others_each colors stroke.Show = refl
others_each colors stroke.Hide = refl

-- ---- changes of style

changes_step : (a b : Bool) (m n p : ℕ) → m ≤ n + p → cond (a && not b) (m + 1) m ≤ cond (a && not b) (n + 1) n + p
changes_step true true m n p h = h
changes_step true false m n p h = omega (arith, h)
changes_step false b m n p h = h

changes_first : (a b : Bool) (n : ℕ) → cond (a && not b) (n + 1) n ≤ cond (a && true) (0 + 1) 0 + n
changes_first true true n = omega arith
changes_first true false n = omega arith
changes_first false b n = omega arith

changes_joined : (ts us : List Token) → changes (ts ++ us) ≤ changes ts + changes us
changes_joined [] us = omega arith
changes_joined (t ∷ []) us = changes_first (is_style t) (begins_with_style us) (changes us)
changes_joined (t ∷ u ∷ ts) us = changes_step (is_style t) (is_style u) (changes (u ∷ (ts ++ us))) (changes (u ∷ ts)) (changes us) (changes_joined (u ∷ ts) us)

one_change : (ts : List Token) → AllByRecursion (λ t. is_style t ≡ true) ts → changes ts ≤ 1
one_change [] a = omega arith
one_change (t ∷ []) a = subst (λ b. cond (b && true) (0 + 1) 0 ≤ 1) (sym a.0) (omega arith)
one_change (t ∷ u ∷ ts) a =
    subst (λ b. cond (is_style t && not b) (changes (u ∷ ts) + 1) (changes (u ∷ ts)) ≤ 1) (sym a.1.0)
    (elim (is_style t) as (λ b. cond (b && false) (changes (u ∷ ts) + 1) (changes (u ∷ ts)) ≤ 1) [
      | true ↦ one_change (u ∷ ts) a.1
      | false ↦ one_change (u ∷ ts) a.1
    ])

-- Characters set no style.
no_changes : (text : List ℕ) → changes (map Char text) ≡ 0
no_changes [] = refl
no_changes (c ∷ text) = no_changes text

changes_each : (colors : ColorOutput) (s : Stroke) → changes (tokens colors s) ≤ how_many is_style_stroke (s ∷ [])
changes_each colors stroke.Begin = omega arith
changes_each colors stroke.End = omega arith
changes_each colors stroke.Erase = omega arith
changes_each colors (stroke.Move column row) = omega arith
changes_each colors (stroke.Style s) = one_change (tokens colors (stroke.Style s)) (style_all (λ t. is_style t ≡ true) (λ text. refl) colors s)
changes_each colors (stroke.Colors change) = one_change (color_tokens colors change) (color_all (λ t. is_style t ≡ true) (λ text. refl) colors change)
changes_each colors (stroke.Print c marks) = omega (arith, no_changes marks)
changes_each colors stroke.Show = omega arith
changes_each colors stroke.Hide = omega arith

changes_of : (colors : ColorOutput) (strokes : List Stroke) → changes (tokens_of colors strokes) ≤ how_many is_style_stroke strokes
changes_of colors [] = omega arith
changes_of colors (s ∷ strokes) =
    omega (arith, changes_joined (tokens colors s) (tokens_of colors strokes), changes_each colors s, changes_of colors strokes, how_many_joined is_style_stroke (s ∷ []) strokes)

-- ---- how long a style is

-- No more are of a kind than there are elements.
all_of : {X : Type 0} (kind : X → Bool) (xs : List X) → how_many kind xs ≤ length xs
all_of kind [] = omega arith
all_of kind (x ∷ xs) =
    let more = all_of kind xs in
    elim (kind x) as (λ b. cond b (how_many kind xs + 1) (how_many kind xs) ≤ length (x ∷ xs)) [
      | true ↦ omega (arith, more)
      | false ↦ omega (arith, more)
    ]

tokens_length : (colors : ColorOutput) (acts : List StyleAct) → AllByRecursion SetsStyle acts → length (act_tokens colors acts) ≡ length acts
tokens_length colors [] h = refl
tokens_length colors (Prints cs ∷ acts) h = absurd h.0
tokens_length colors (Colors c ∷ acts) h = ap (λ n. suc n) (tokens_length colors acts h.1)
tokens_length colors (Takes a ∷ acts) h = ap (λ n. suc n) (tokens_length colors acts h.1)

few_members : (bits : ℕ) → length (members bits) ≤ 28
unfolding members
few_members bits =
    let all : length all_attributes ≡ 28 = refl in
    omega (arith, length-filter (has_attribute bits) all_attributes, count_by-le-length (has_attribute bits) all_attributes, all)

one_color : (at : Color → Colored) (o : Option Color) → length (where_there at o) ≤ 1
one_color at None = omega arith
one_color at (Some c) = omega arith

few_acts : (s : ContentStyle) → length (style_acts s) ≤ 31
few_acts s =
    let back = where_there BackgroundColor s.background_color in
    let front = where_there ForegroundColor s.foreground_color in
    let under = where_there UnderlineColor s.underline_color in
    let takes = map Takes (members s.attributes.0) in
    omega (
      arith,
      length-append back (front ++ (under ++ takes)),
      length-append front (under ++ takes),
      length-append under takes,
      length-map (members s.attributes.0) Takes,
      one_color BackgroundColor s.background_color,
      one_color ForegroundColor s.foreground_color,
      one_color UnderlineColor s.underline_color,
      few_members s.attributes.0,
    )

color_length : (colors : ColorOutput) (change : ContentStyle) → length (color_tokens colors change) ≤ 31
color_length Enabled change = omega (arith, tokens_length Enabled (style_acts change) (style_sets change), few_acts change)
color_length Disabled change = omega arith

style_each : (colors : ColorOutput) (s : Stroke) → how_many is_style (tokens colors s) ≤ longest_style * how_many is_style_stroke (s ∷ [])
style_each colors stroke.Begin = omega arith
style_each colors stroke.End = omega arith
style_each colors stroke.Erase = omega arith
style_each colors (stroke.Move column row) = omega arith
style_each colors (stroke.Style s) = omega (arith, all_of is_style (act_tokens colors (style_acts s)), tokens_length colors (style_acts s) (style_sets s), few_acts s)
style_each colors (stroke.Colors change) = omega (arith, all_of is_style (color_tokens colors change), color_length colors change)
style_each colors (stroke.Print c marks) = omega (arith, none_of is_style (tokens colors (stroke.Print c marks)) (refl, chars_all (λ t. is_style t ≡ false) (λ m. refl) marks))
style_each colors stroke.Show = omega arith
style_each colors stroke.Hide = omega arith

style_of : (colors : ColorOutput) (strokes : List Stroke) → how_many is_style (tokens_of colors strokes) ≤ longest_style * how_many is_style_stroke strokes
style_of colors [] = omega arith
style_of colors (s ∷ strokes) =
    omega (arith, how_many_joined is_style (tokens colors s) (tokens_of colors strokes), style_each colors s, style_of colors strokes, how_many_joined is_style_stroke (s ∷ []) strokes)

-- ---- one update

bounds : Token → Bool
bounds (Csi text [] final) = (final == 0x68 || final == 0x6C) && bytes_eq text (codes "?2026")
bounds t = false

between : (t : Token) → bounds t ≡ false → IsBetween t
unfolding bounds
between t e = (
  λ b. let no : true ≡ false = sym (ap bounds b) ∙ e in cc,
  λ b. let no : true ≡ false = sym (ap bounds b) ∙ e in cc,
)

inner_each : (colors : ColorOutput) (s : Stroke) → IsInner s → AllByRecursion IsBetween (tokens colors s)
unfolding bounds
inner_each colors stroke.Begin i = absurd i
inner_each colors stroke.End i = absurd i
inner_each colors stroke.Erase i = (between _ refl, tt)
inner_each colors (stroke.Move column row) i = (between _ refl, tt)
inner_each colors (stroke.Style s) i = style_all IsBetween (λ text. between _ refl) colors s
inner_each colors (stroke.Colors change) i = color_all IsBetween (λ text. between _ refl) colors change
inner_each colors (stroke.Print c marks) i = (between _ refl, chars_all IsBetween (λ m. between _ refl) marks)
inner_each colors stroke.Show i = (between _ refl, tt)
inner_each colors stroke.Hide i = (between _ refl, tt)

inner_all : (colors : ColorOutput) (strokes : List Stroke) → AllByRecursion IsInner strokes → AllByRecursion IsBetween (tokens_of colors strokes)
inner_all colors [] a = tt
inner_all colors (s ∷ strokes) a = all_joined IsBetween (tokens colors s) (tokens_of colors strokes) (inner_each colors s a.0) (inner_all colors strokes a.1)

one_update : (colors : ColorOutput) (strokes within : List Stroke) → strokes ≡ stroke.Begin ∷ (within ++ (stroke.End ∷ [])) → AllByRecursion IsInner within → IsOneUpdate (tokens_of colors strokes)
one_update colors strokes within e a = (
  tokens_of colors within,
  ap (tokens_of colors) e ∙ ap (λ l. begin_update ∷ l) (flat_map-append (tokens colors) within (stroke.End ∷ [])),
  inner_all colors within a,
)

-- ---- runs

runs_more : {X : Type 0} (S : X → Type 0) (R : X → X → Type 0) (xs : List X) (y : X) (n : ℕ) → Continues S R xs y → HasRunsFrom S R xs n → HasRunsFrom S R (xs ++ y ∷ []) n
runs_more S R [] y n c r = inl (c, r)
runs_more S R (x ∷ xs) y n c r = elim r [
  | inl p ↦ inl (p.0, runs_more (R x) R xs y n c p.1)
  | inr q ↦ inr (q.0, q.1, q.2, runs_more (R x) R xs y q.1 c q.3)
]

runs_new : {X : Type 0} (S : X → Type 0) (R : X → X → Type 0) (xs : List X) (y : X) (n : ℕ) → (Continues S R xs y → ⊥) → HasRunsFrom S R xs n → HasRunsFrom S R (xs ++ y ∷ []) (n + 1)
runs_new S R [] y n c r = inr (c, 0, omega (arith, r), refl)
runs_new S R (x ∷ xs) y n c r = elim r [
  | inl p ↦ inl (p.0, runs_new (R x) R xs y n c p.1)
  | inr q ↦ inr (q.0, q.1 + 1, ap (λ k. k + 1) q.2, runs_new (R x) R xs y q.1 c q.3)
]

continues_to : {X : Type 0} (S : X → Type 0) (R : X → X → Type 0) (xs : List X) (x y : X) → Continues S R (xs ++ x ∷ []) y → R x y
continues_to S R [] x y c = c
continues_to S R (a ∷ xs) x y c = continues_to (R a) R xs x y c

continues_from : {X : Type 0} (S : X → Type 0) (R : X → X → Type 0) (xs : List X) (x y : X) → R x y → Continues S R (xs ++ x ∷ []) y
continues_from S R [] x y c = c
continues_from S R (a ∷ xs) x y c = continues_from (R a) R xs x y c

-- Only what holds for the first element counts.
runs_as : {X : Type 0} (S T : X → Type 0) (R : X → X → Type 0) (xs : List X) (n : ℕ) → ((x : X) → S x → T x) → ((x : X) → T x → S x) → HasRunsFrom S R xs n → HasRunsFrom T R xs n
runs_as S T R [] n to back r = r
runs_as S T R (x ∷ xs) n to back r = elim r [
  | inl p ↦ inl (to x p.0, p.1)
  | inr q ↦ inr (λ t. q.0 (back x t), q.1, q.2, q.3)
]

-- One more element: whether the last one is related to it decides if there is one more run, and the count grows only
-- then.
runs_push : {X : Type 0} (S : X → Type 0) (R : X → X → Type 0) (xs : List X) (y : X) (n m e : ℕ) (there : Bool) → (there ≡ true → Continues S R xs y) → (Continues S R xs y → there ≡ true)
    → HasRunsFrom S R xs n → m ≤ n + e → (k : ℕ) × HasRunsFrom S R (xs ++ y ∷ []) k × (m + cond there 0 1 ≤ k + e)
runs_push S R xs y n m e true goes back r le = (n, runs_more S R xs y n (goes refl) r, omega (arith, le))
runs_push S R xs y n m e false goes back r le = (n + 1, runs_new S R xs y n (λ c. let f : false ≡ true = back c in cc) r, omega (arith, le))

-- ---- what has to be printed

printed_same : (at : ℕ) (xs ys : List Cell) (x y : Cell) (all : List Placed) → (HasToBePrinted x y → ⊥) → ArePrinted at xs ys all → ArePrinted at (xs ++ x ∷ []) (ys ++ y ∷ []) all
printed_same at [] [] x y all e d = inl (e, d)
printed_same at [] (b ∷ ys) x y all e d = absurd d
printed_same at (a ∷ xs) [] x y all e d = absurd d
printed_same at (a ∷ xs) (b ∷ ys) x y all e d = elim d [
  | inl p ↦ inl (p.0, printed_same (at + 1) xs ys x y all e p.1)
  | inr q ↦ inr (q.0, q.1, q.2, printed_same (at + 1) xs ys x y q.1 e q.3)
]

abbrev placed : ℕ → Cell → Placed
placed at c = record { at = at; cell = c }

printed_more : (at k : ℕ) (xs ys : List Cell) (x y : Cell) (all : List Placed) → at + length xs ≡ k → HasToBePrinted x y → ArePrinted at xs ys all
    → ArePrinted at (xs ++ x ∷ []) (ys ++ y ∷ []) (all ++ placed k y ∷ [])
printed_more at k [] [] x y all long e d =
    let here : at ≡ k = omega (arith, long) in
    inr (e, [], ap (λ l. l ++ placed k y ∷ []) d ∙ ap (λ n. placed n y ∷ []) (sym here), refl)
printed_more at k [] (b ∷ ys) x y all long e d = absurd d
printed_more at k (a ∷ xs) [] x y all long e d = absurd d
printed_more at k (a ∷ xs) (b ∷ ys) x y all long e d = elim d [
  | inl p ↦ inl (p.0, printed_more (at + 1) k xs ys x y all (omega (arith, long)) e p.1)
  | inr q ↦ inr (q.0, q.1 ++ placed k y ∷ [], ap (λ l. l ++ placed k y ∷ []) q.2, printed_more (at + 1) k xs ys x y q.1 (omega (arith, long)) e q.3)
]

grown : (xs : List Cell) (k : ℕ) (x : Cell) → k < length xs → get_or xs k x ≡ x → take (k + 1) xs ≡ take k xs ++ x ∷ []
grown xs k x lt e = take_more xs k x lt ∙ ap (λ y. take k xs ++ (y ∷ [])) e

-- ---- strokes so far

-- The strokes that begin a frame.
pub spares_start : (known : Start) (width : ℕ) (before after : List Cell) → Sparing known width (take 0 before) (take 0 after) 0 (known_cursor known) (known_style known) (first_strokes known)
spares_start start.Nothing width before after = record {
  spares = record { all = []; printed = refl; moves = (0, 0, refl, omega arith, omega arith); styles = (0, refl, omega arith); others = omega arith; begun = (stroke.Style no_style ∷ stroke.Erase ∷ [], refl, (tt, (tt, tt))) };
  beside = λ x. ((λ c. c), (λ e. e));
  same = λ x. ((λ c. c), (λ e. e));
}
spares_start start.Cells width before after = record {
  spares = record { all = []; printed = refl; moves = (0, 0, refl, omega arith, omega arith); styles = (0, refl, omega arith); others = omega arith; begun = ([], refl, tt) };
  beside = λ x. ((λ c. c), (λ e. e));
  same = λ x. ((λ c. c), (λ e. e));
}
spares_start (start.All at) width before after = record {
  spares = record { all = []; printed = refl; moves = (0, 0, refl, omega arith, omega arith); styles = (0, refl, omega arith); others = omega arith; begun = tt };
  beside = λ x. ((λ c. c), (λ e. e));
  same = λ x. ((λ c. c), (λ e. e));
}

-- More strokes within the update.
begins_more : (known : Start) (strokes more : List Stroke) → AllByRecursion IsInner more → BeginsUpdate known strokes → BeginsUpdate known (strokes ++ more)
begins_more start.Nothing strokes more a begun = (begun.0 ++ more, ap (λ l. l ++ more) begun.1, all_joined IsInner begun.0 more begun.2 a)
begins_more start.Cells strokes more a begun = (begun.0 ++ more, ap (λ l. l ++ more) begun.1, all_joined IsInner begun.0 more begun.2 a)
begins_more (start.All at) strokes more a begun = tt

-- A place for which nothing is printed.
pub spares_kept : (known : Start) (width : ℕ) (before after : List Cell) (k again : ℕ) (cursor : Option ℕ) (style : Option ContentStyle) (strokes : List Stroke) (b c : Cell)
    → k < length before → k < length after → get_or before k b ≡ b → get_or after k c ≡ c → (HasToBePrinted b c → ⊥)
    → Sparing known width (take k before) (take k after) again cursor style strokes → Sparing known width (take (k + 1) before) (take (k + 1) after) again cursor style strokes
spares_kept known width before after k again cursor style strokes b c lb la eb ec e s = record {
  spares = record {
    all = s.spares.all;
    printed = subst (λ l. ArePrinted 0 l (take (k + 1) after) s.spares.all) (sym (grown before k b lb eb))
        (subst (λ l. ArePrinted 0 (take k before ++ b ∷ []) l s.spares.all) (sym (grown after k c la ec)) (printed_same 0 (take k before) (take k after) b c s.spares.all e s.spares.printed));
    moves = s.spares.moves;
    styles = s.spares.styles;
    others = s.spares.others;
    begun = s.spares.begun;
  };
  beside = s.beside;
  same = s.same;
}

some_same : {X : Type 0} (x y : X) → Some x ≡ Some y → x ≡ y
some_same {X} x y e = ap (λ o. elim o [ None ↦ x | Some z ↦ z ]) e

cell_moves : (there : Bool) (how : Setting) (column row : ℕ) (c : Cell) → how_many is_move_stroke (cell_strokes there how column row c) ≡ cond there 0 1
cell_moves true setting.Kept column row c = refl
cell_moves true (setting.Colors change) column row c = refl
cell_moves true (setting.Whole s) column row c = refl
cell_moves false setting.Kept column row c = refl
cell_moves false (setting.Colors change) column row c = refl
cell_moves false (setting.Whole s) column row c = refl

cell_styles : (there : Bool) (how : Setting) (column row : ℕ) (c : Cell) → how_many is_style_stroke (cell_strokes there how column row c) ≡ cond (is_kept how) 0 1
cell_styles true setting.Kept column row c = refl
cell_styles true (setting.Colors change) column row c = refl
cell_styles true (setting.Whole s) column row c = refl
cell_styles false setting.Kept column row c = refl
cell_styles false (setting.Colors change) column row c = refl
cell_styles false (setting.Whole s) column row c = refl

cell_others : (there : Bool) (how : Setting) (column row : ℕ) (c : Cell) → how_many is_other_stroke (cell_strokes there how column row c) ≡ 0
cell_others true setting.Kept column row c = refl
cell_others true (setting.Colors change) column row c = refl
cell_others true (setting.Whole s) column row c = refl
cell_others false setting.Kept column row c = refl
cell_others false (setting.Colors change) column row c = refl
cell_others false (setting.Whole s) column row c = refl

cell_inner : (there : Bool) (how : Setting) (column row : ℕ) (c : Cell) → AllByRecursion IsInner (cell_strokes there how column row c)
cell_inner true setting.Kept column row c = (tt, tt)
cell_inner true (setting.Colors change) column row c = (tt, (tt, tt))
cell_inner true (setting.Whole s) column row c = (tt, (tt, tt))
cell_inner false setting.Kept column row c = (tt, (tt, tt))
cell_inner false (setting.Colors change) column row c = (tt, (tt, (tt, tt)))
cell_inner false (setting.Whole s) column row c = (tt, (tt, (tt, tt)))

-- Characters that are printed again aren't other strokes.
no_moves : (strokes : List Stroke) (cells : List Cell) → how_many is_move_stroke (strokes ++ again_strokes cells) ≡ how_many is_move_stroke strokes
no_moves strokes cells = omega (arith, how_many_joined is_move_stroke strokes (again_strokes cells), again_none is_move_stroke (λ c marks. refl) cells)

no_styles : (strokes : List Stroke) (cells : List Cell) → how_many is_style_stroke (strokes ++ again_strokes cells) ≡ how_many is_style_stroke strokes
no_styles strokes cells = omega (arith, how_many_joined is_style_stroke strokes (again_strokes cells), again_none is_style_stroke (λ c marks. refl) cells)

no_others : (strokes : List Stroke) (cells : List Cell) → how_many is_other_stroke (strokes ++ again_strokes cells) ≡ how_many is_other_stroke strokes
no_others strokes cells = omega (arith, how_many_joined is_other_stroke strokes (again_strokes cells), again_none is_other_stroke (λ c marks. refl) cells)

-- One more stop: the cursor moves only if it isn't there, and few characters that are printed again save a move.
move_pushed : (known : Start) (width : ℕ) (before after : List Cell) (again : ℕ) (cursor : Option ℕ) (style : Option ContentStyle) (strokes : List Stroke) (x : Placed) (there : Bool) (more : ℕ) → Comes cursor x.at there more
    → (s : Sparing known width before after again cursor style strokes)
    → (i : ℕ) × (saved : ℕ) × HasRunsFrom (IsAt (known_cursor known)) (IsBeside width) (s.spares.all ++ x ∷ []) i × (again + more ≤ 3 * saved) × (how_many is_move_stroke strokes + cond there 0 1 + saved ≤ i)
move_pushed known width before after again cursor style strokes x there more comes s =
    let (n, saved, runs, few, moves) = s.spares.moves in
    let count = how_many is_move_stroke strokes in
    let S = IsAt (known_cursor known) in
    let R = IsBeside width in
    let all = s.spares.all in
    elim comes [
      | inl p ↦
          let pushed = runs_push S R all x n (count + saved) 0 there (λ y. (s.beside x).1 (p.1.0 y)) (λ y. p.1.1 ((s.beside x).0 y)) runs (omega (arith, moves)) in
          (pushed.0, saved, pushed.1, omega (arith, few, p.0), omega (arith, pushed.2))
      | inr q ↦
          let pushed = runs_push S R all x n (count + saved) 0 false (λ y. cc) (λ y. absurd (q.2 ((s.beside x).0 y))) runs (omega (arith, moves)) in (
            pushed.0,
            saved + 1,
            pushed.1,
            omega (arith, few, q.1),
            subst (λ b. count + cond b 0 1 + (saved + 1) ≤ pushed.0) (sym q.0) (omega (arith, pushed.2)),
          )
    ]

-- The style is set only if it isn't set already.
style_pushed : (known : Start) (width : ℕ) (before after : List Cell) (again : ℕ) (cursor : Option ℕ) (style : Option ContentStyle) (strokes : List Stroke) (x : Placed) (how : Setting) → (is_kept how ≡ true) ↔ (style ≡ Some x.cell.style)
    → (s : Sparing known width before after again cursor style strokes)
    → (i : ℕ) × HasRunsFrom (IsSet (known_style known)) HasSameStyle (s.spares.all ++ x ∷ []) i × (how_many is_style_stroke strokes + cond (is_kept how) 0 1 ≤ i + first_styles known)
style_pushed known width before after again cursor style strokes x how set s =
    let styles : (n : ℕ) × HasRunsFrom (IsSet (known_style known)) HasSameStyle s.spares.all n × (how_many is_style_stroke strokes ≤ n + first_styles known) = s.spares.styles in
    runs_push (IsSet (known_style known)) HasSameStyle s.spares.all x styles.0 (how_many is_style_stroke strokes) (first_styles known) (is_kept how) (λ y. (s.same x).1 (set.0 y)) (λ y. set.1 ((s.same x).0 y)) styles.1 styles.2

-- A place for which a character is printed: the cursor moves and the style is set only if that is necessary.
pub spares_painted : (known : Start) (width : ℕ) (before after : List Cell) (k again : ℕ) (cursor : Option ℕ) (style : Option ContentStyle) (strokes : List Stroke) (cells : List Cell) (b c : Cell) (there : Bool) (how : Setting) (column row : ℕ)
    → k < length before → k < length after → get_or before k b ≡ b → get_or after k c ≡ c → HasToBePrinted b c → Comes cursor k there (length cells) → Sets style c.style how
    → Sparing known width (take k before) (take k after) again cursor style strokes
    → Sparing known width (take (k + 1) before) (take (k + 1) after) (again + length cells) (right_of width (last_place k c)) (Some c.style) ((strokes ++ again_strokes cells) ++ cell_strokes there how column row c)
spares_painted known width before after k again cursor style strokes cells b c there how column row lb la eb ec e comes sets s =
    let set = kept_there style c.style how sets in
    let more = cell_strokes there how column row c in
    let front = strokes ++ again_strokes cells in
    let all = s.spares.all in
    let x = placed k c in
    let long : 0 + length (take k before) ≡ k = omega (arith, length-take-le k before (omega (arith, lb))) in
    let moved = move_pushed known width (take k before) (take k after) again cursor style strokes x there (length cells) comes s in
    let styled = style_pushed known width (take k before) (take k after) again cursor style strokes x how set s in
    record {
      spares = record {
        all = all ++ x ∷ [];
        printed = subst (λ l. ArePrinted 0 l (take (k + 1) after) (all ++ x ∷ [])) (sym (grown before k b lb eb))
            (subst (λ l. ArePrinted 0 (take k before ++ b ∷ []) l (all ++ x ∷ [])) (sym (grown after k c la ec)) (printed_more 0 k (take k before) (take k after) b c all long e s.spares.printed));
        moves = (moved.0, moved.1, moved.2, moved.3, omega (arith, moved.4, how_many_joined is_move_stroke front more, no_moves strokes cells, cell_moves there how column row c));
        styles = (styled.0, styled.1, omega (arith, styled.2, how_many_joined is_style_stroke front more, no_styles strokes cells, cell_styles there how column row c));
        others = omega (arith, s.spares.others, how_many_joined is_other_stroke front more, no_others strokes cells, cell_others there how column row c);
        begun = begins_more known front more (cell_inner there how column row c) (begins_more known strokes (again_strokes cells) (again_inner cells) s.spares.begun);
      };
      beside = λ y. ((λ r. continues_to (IsAt (known_cursor known)) (IsBeside width) all x y r), (λ r. continues_from (IsAt (known_cursor known)) (IsBeside width) all x y r));
      same = λ y. ((λ r. ap Some (continues_to (IsSet (known_style known)) HasSameStyle all x y r)), (λ r. continues_from (IsSet (known_style known)) HasSameStyle all x y (some_same c.style y.cell.style r)));
    }

-- At the end these are all.
pub spares_all : (known : Start) (width k again : ℕ) (before after : List Cell) (cursor : Option ℕ) (style : Option ContentStyle) (strokes : List Stroke) → length before ≤ k → length after ≤ k
    → Sparing known width (take k before) (take k after) again cursor style strokes → Sparing known width before after again cursor style strokes
spares_all known width k again before after cursor style strokes lb la s =
    subst (λ l. Sparing known width l after again cursor style strokes) (take_all k before lb) (subst (λ l. Sparing known width (take k before) l again cursor style strokes) (take_all k after la) s)

-- ---- the end of a frame

last_moves : (cursor : Option (ℕ × ℕ)) → how_many is_move_stroke (last_strokes cursor) ≡ end_moves cursor
last_moves None = refl
last_moves (Some place) = refl

last_styles : (cursor : Option (ℕ × ℕ)) → how_many is_style_stroke (last_strokes cursor) ≡ 1
last_styles None = refl
last_styles (Some place) = refl

last_others : (cursor : Option (ℕ × ℕ)) → how_many is_other_stroke (last_strokes cursor) ≡ 2
last_others None = refl
last_others (Some place) = refl

-- The last strokes before the update's end.
abbrev closing : Option (ℕ × ℕ) → List Stroke
closing cursor = stroke.Style no_style ∷ cursor_strokes cursor

closing_inner : (cursor : Option (ℕ × ℕ)) → AllByRecursion IsInner (closing cursor)
closing_inner None = (tt, (tt, tt))
closing_inner (Some place) = (tt, (tt, (tt, tt)))

begun_of : (known : Bool) (strokes : List Stroke) → BeginsUpdate (start_by known) strokes → (within : List Stroke) × (strokes ≡ stroke.Begin ∷ within) × AllByRecursion IsInner within
begun_of true strokes begun = begun
begun_of false strokes begun = begun

pub updated : (known : Bool) (width : ℕ) (before after : List Cell) (cursor : Option (ℕ × ℕ)) (again : ℕ) (strokes : List Stroke) → Spares (start_by known) width before after again strokes → (colors : ColorOutput)
    → IsOneUpdate (tokens_of colors (strokes ++ last_strokes cursor))
updated known width before after cursor again strokes s colors =
    let begun = begun_of known strokes s.begun in
    one_update colors (strokes ++ last_strokes cursor) (begun.0 ++ closing cursor)
    (ap (λ l. l ++ last_strokes cursor) begun.1 ∙ ap (λ l. stroke.Begin ∷ l) (sym (append_assoc begun.0 (closing cursor) (stroke.End ∷ []))))
    (all_joined IsInner begun.0 (closing cursor) begun.2 (closing_inner cursor))

-- If neither the cursor's place nor the style is known at the beginning, each run begins anew.
fresh_moves : (known : Bool) (width : ℕ) (all : List Placed) (n : ℕ) → HasRunsFrom (IsAt (known_cursor (start_by known))) (IsBeside width) all n → HasRuns (IsBeside width) all n
fresh_moves true width all n r = runs_as (IsAt None) (λ x. ⊥) (IsBeside width) all n (λ x e. cc) (λ x e. absurd e) r
fresh_moves false width all n r = runs_as (IsAt None) (λ x. ⊥) (IsBeside width) all n (λ x e. cc) (λ x e. absurd e) r

fresh_styles : (known : Bool) (all : List Placed) (n : ℕ) → HasRunsFrom (IsSet (known_style (start_by known))) HasSameStyle all n → HasRuns HasSameStyle all n
fresh_styles true all n r = runs_as (IsSet None) (λ x. ⊥) HasSameStyle all n (λ x e. cc) (λ x e. absurd e) r
fresh_styles false all n r = runs_as (IsSet None) (λ x. ⊥) HasSameStyle all n (λ x e. cc) (λ x e. absurd e) r

ended_styles : (known : Bool) → first_styles (start_by known) + 1 ≡ end_styles known
ended_styles true = refl
ended_styles false = refl

ended_others : (known : Bool) → first_others (start_by known) + 2 ≡ end_others known
ended_others true = refl
ended_others false = refl

pub sparing : (known : Bool) (width : ℕ) (before after : List Cell) (cursor : Option (ℕ × ℕ)) (again : ℕ) (strokes : List Stroke) → Spares (start_by known) width before after again strokes → (colors : ColorOutput)
    → IsSparing known width before after cursor again (tokens_of colors (strokes ++ last_strokes cursor))
sparing known width before after cursor again strokes s colors =
    let ends = last_strokes cursor in
    let all = strokes ++ ends in
    let (n, saved, runs, few, moves) = s.moves in
    let styles : (n : ℕ) × HasRunsFrom (IsSet (known_style (start_by known))) HasSameStyle s.all n × (how_many is_style_stroke strokes ≤ n + first_styles (start_by known)) = s.styles in
    record {
      all = s.all;
      printed = s.printed;
      moves = (n, saved, fresh_moves known width s.all n runs, few, omega (arith, moves, of_strokes is_move is_move_stroke moves_each colors all, how_many_joined is_move_stroke strokes ends, last_moves cursor));
      styles = (
        styles.0,
        fresh_styles known s.all styles.0 styles.1,
        omega (arith, styles.2, ended_styles known, changes_of colors all, how_many_joined is_style_stroke strokes ends, last_styles cursor),
        omega (arith, styles.2, ended_styles known, style_of colors all, how_many_joined is_style_stroke strokes ends, last_styles cursor),
      );
      others = omega (arith, s.others, ended_others known, of_strokes is_other is_other_stroke others_each colors all, how_many_joined is_other_stroke strokes ends, last_others cursor);
    }

-- ---- the end of a frame right behind the last one

stop_moves : (there : Bool) (how : Setting) (column : ℕ) → how_many is_move_stroke (stop_strokes there how column) ≡ cond there 0 1
stop_moves true setting.Kept column = refl
stop_moves true (setting.Colors change) column = refl
stop_moves true (setting.Whole s) column = refl
stop_moves false setting.Kept column = refl
stop_moves false (setting.Colors change) column = refl
stop_moves false (setting.Whole s) column = refl

stop_styles : (there : Bool) (how : Setting) (column : ℕ) → how_many is_style_stroke (stop_strokes there how column) ≡ cond (is_kept how) 0 1
stop_styles true setting.Kept column = refl
stop_styles true (setting.Colors change) column = refl
stop_styles true (setting.Whole s) column = refl
stop_styles false setting.Kept column = refl
stop_styles false (setting.Colors change) column = refl
stop_styles false (setting.Whole s) column = refl

stop_others : (there : Bool) (how : Setting) (column : ℕ) → how_many is_other_stroke (stop_strokes there how column) ≡ 0
stop_others true setting.Kept column = refl
stop_others true (setting.Colors change) column = refl
stop_others true (setting.Whole s) column = refl
stop_others false setting.Kept column = refl
stop_others false (setting.Colors change) column = refl
stop_others false (setting.Whole s) column = refl

pub short : (width : ℕ) (before after : List Cell) (from column again : ℕ) (cursor : Option ℕ) (style : Option ContentStyle) (strokes : List Stroke) (cells : List Cell) (there : Bool) (how : Setting)
    → Comes cursor column there (length cells) → Sets style no_style how → Sparing (start.All from) width before after again cursor style strokes → (colors : ColorOutput)
    → (n : ℕ) × DifferAt before after n × (printed_count (tokens_of colors ((strokes ++ again_strokes cells) ++ stop_strokes there how column)) ≡ n + (again + length cells))
    → IsLean width before after from column (tokens_of colors ((strokes ++ again_strokes cells) ++ stop_strokes there how column))
short width before after from column again cursor style strokes cells there how comes sets s colors count =
    let ends = stop_strokes there how column in
    let front = strokes ++ again_strokes cells in
    let all = front ++ ends in
    let x = placed column blank in
    let moved = move_pushed (start.All from) width before after again cursor style strokes x there (length cells) comes s in
    let styled = style_pushed (start.All from) width before after again cursor style strokes x how (kept_there style no_style how sets) s in
    record {
      all = s.spares.all;
      printed = s.spares.printed;
      again = again + length cells;
      count = count;
      moves = (
        moved.0,
        moved.1,
        runs_as (IsAt (Some from)) (λ y. y.at ≡ from) (IsBeside width) (cursor_stops s.spares.all column) moved.0 (λ y e. sym (some_same from y.at e)) (λ y e. ap Some (sym e)) moved.2,
        moved.3,
        omega (arith, moved.4, of_strokes is_move is_move_stroke moves_each colors all, how_many_joined is_move_stroke front ends, no_moves strokes cells, stop_moves there how column),
      );
      styles = (
        styled.0,
        runs_as (IsSet (Some no_style)) (λ y. y.cell.style ≡ no_style) HasSameStyle (cursor_stops s.spares.all column) styled.0 (λ y e. sym (some_same no_style y.cell.style e)) (λ y e. ap Some (sym e)) styled.1,
        omega (arith, styled.2, changes_of colors all, how_many_joined is_style_stroke front ends, no_styles strokes cells, stop_styles there how column),
        omega (arith, styled.2, style_of colors all, how_many_joined is_style_stroke front ends, no_styles strokes cells, stop_styles there how column),
      );
      others = omega (arith, s.spares.others, of_strokes is_other is_other_stroke others_each colors all, how_many_joined is_other_stroke front ends, no_others strokes cells, stop_others there how column);
    }
