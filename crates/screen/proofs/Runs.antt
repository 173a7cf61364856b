-- What strokes do to a grid.
use Rattle.std.proofs.Common.{◌≡◌, ℕ, ◌+◌, ◌-◌, ◌*◌, ◌<◌, ◌≤◌, ◌==◌, ◌^◌, nat_le, Bool, true, false, cond, List, [], ◌∷◌, ◌++◌, Option, Some, None, refl, sym, ap, ◌∙◌, subst, arith, map, codes, append-nil, append_assoc, drop, get_or, length, suc, take, not, ◌&&◌, ◌⊎◌, inl, inr}
use Rattle.std.specs.Fmt.{decimal}
use Rattle.std.specs.List.{AllByRecursion, list_all, slice_split}
use Rattle.std.specs.Str.Parse.{digits_value}
use Rattle.std.proofs.Math.Nat.{mod-lt}
use Rattle.std.proofs.lemmas.Bool.{and_parts}
use Rattle.std.proofs.lemmas.Bool.Decides.{nat_tests}
use Rattle.std.proofs.lemmas.Fmt.{decimal_by_steps, decimal_is_IsNumeral}
use Rattle.std.proofs.lemmas.List.{length-take-le}
use Rattle.std.proofs.lemmas.List.Concat.{flat_map-append}
use Rattle.unicode_width.specs.Width.{char_width}
use Rattle.crossterm_command.specs.Tokens.{Token}
use Rattle.crossterm_command.specs.Tokens.Token.{Char}
use Rattle.crossterm_command.specs.declared.color_output.ColorOutput.{ColorOutput}
use Rattle.crossterm_command.specs.declared.color_output.ColorOutput.TheVariants.{Enabled, Disabled}
use Rattle.crossterm_command.proofs.Readings.{all_joined}
use Rattle.crossterm_style.specs.declared.content_style.ContentStyle.{ContentStyle}
use Rattle.crossterm_style.specs.declared.types.attribute.Attribute.{Attribute}
use Rattle.crossterm_style.specs.declared.types.attribute.Attribute.TheVariants.{Reset}
use Rattle.crossterm_style.specs.declared.types.color.Color.{Color}
use Rattle.crossterm_style.specs.declared.types.colored.Colored.{Colored}
use Rattle.crossterm_style.specs.declared.types.colored.Colored.TheVariants.{ForegroundColor, BackgroundColor, UnderlineColor}
use Rattle.crossterm_style.specs.Acts.{StyleAct, after_acts, style_acts, where_there}
use Rattle.crossterm_style.specs.Acts.StyleAct.{Prints, Colors, Takes}
use Rattle.crossterm_style.specs.Appearance.{FitsAct}
use Rattle.crossterm_style.specs.Attributes.{members}
use Rattle.crossterm_style.specs.Looks.{Style, is_decimal, plain, style_after}
use Rattle.crossterm_style.specs.Styles.{attribute_functions, no_style, act_tokens}
use Rattle.crossterm_style.proofs.ActLooks.{acts_show}
use Rattle.crossterm_style.proofs.TextLaws.{IsDigit, next_field, one_field}
use Rattle.crossterm.specs.Sequences.{move_to}
use Rattle.screen.specs.declared.settings.Setting.{Setting}
use Rattle.screen.specs.declared.settings.Setting.TheVariants as setting
use Rattle.screen.specs.declared.strokes.Stroke.{Stroke}
use Rattle.screen.specs.declared.strokes.Stroke.TheVariants as stroke
use Rattle.screen.specs.Cells.{Cell, FitsCell, IsPrinted, is_wide, last_place, look, shown_text}
use Rattle.screen.specs.Grids.{Grid, Square, begun, char_effect, control_at, ended, is_last, last_character, last_shown, mark_at, first_marked, move_cursor, parameter_number, overwritten, place, place_by, print_at, print_one, print_two, right_of, run, step, takes_one, takes_two, with_mark}
use Rattle.screen.specs.Grids.Square.{Unknown, Whole, First, Second}
use Rattle.screen.specs.Marks.{AreMarks, is_joined, is_kept_with, is_mark_of, is_width, takes_none}
use Rattle.screen.specs.inside.Settings.{HasByteColors, Sets}
use Rattle.screen.specs.inside.Strokes.{cell_strokes, color_tokens, move_strokes, style_strokes, tokens, tokens_of}
use Rattle.screen.proofs.Recolorings.{recolored, recolored_by}
use Rattle.screen.proofs.Squares.{squares}

-- ---- tokens in a row

abbrev pub after : List Token → Option Grid → Option Grid
after ts None = None
after ts (Some g) = run ts g

run_joined : (ts us : List Token) (g : Grid) → run (ts ++ us) g ≡ after us (run ts g)
run_joined [] us g = refl
run_joined (t ∷ ts) us g =
    elim (step t g) as (λ o. elim o [ None ↦ None | Some h ↦ run (ts ++ us) h ] ≡ after us (elim o [ None ↦ None | Some h ↦ run ts h ])) [
      | None ↦ refl
      | Some h ↦ run_joined ts us h
    ]

pub run_then : (ts us : List Token) (g h : Grid) → run ts g ≡ Some h → run (ts ++ us) g ≡ run us h
run_then ts us g h e = run_joined ts us g ∙ ap (after us) e

-- Strokes, and then others.
pub runs_then : (colors : ColorOutput) (xs ys : List Stroke) (g h : Grid) → run (tokens_of colors xs) g ≡ Some h → run (tokens_of colors (xs ++ ys)) g ≡ run (tokens_of colors ys) h
runs_then colors xs ys g h e = ap (λ ts. run ts g) (flat_map-append (tokens colors) xs ys) ∙ run_then (tokens_of colors xs) (tokens_of colors ys) g h e

-- ---- places

decimal_digits : (n : ℕ) → n < 2 ^ 64 → AllByRecursion IsDigit (decimal n)
decimal_digits = decimal_by_steps (λ n ds. AllByRecursion IsDigit ds) (λ n h. ((omega arith, omega arith), tt))
    (λ n ds h a. all_joined IsDigit ds _ a ((omega arith, omega (arith, mod-lt n {m = 10} (omega arith))), tt))

digit_passes : (d : ℕ) → IsDigit d → is_decimal d ≡ true
digit_passes d h = grind (arith, nat_tests)

digits_pass : (ds : List ℕ) → AllByRecursion IsDigit ds → list_all is_decimal ds ≡ true
digits_pass [] a = refl
digits_pass (d ∷ ds) a = rw (digit_passes d a.0, digits_pass ds a.1) refl

pub number_read : (n : ℕ) → n < 2 ^ 64 → parameter_number (decimal n) ≡ Some n
number_read n h =
    let value : digits_value 10 (decimal n) ≡ n = (decimal_is_IsNumeral n h).1 in
    rw (digits_pass (decimal n) (decimal_digits n h), value) refl

pub le_true : (m n : ℕ) → m ≤ n → nat_le m n ≡ true
le_true m n h = grind (arith, nat_tests)

place_read : (row column : ℕ) (g : Grid) → row < g.height → column < g.width → place (Some (row + 1)) (Some (column + 1)) g ≡ Some (row * g.width + column)
place_read row column g r c =
    let a : row + 1 - 1 ≡ row = omega arith in
    let b : column + 1 - 1 ≡ column = omega arith in
    rw (le_true 1 (row + 1) (omega arith), le_true (row + 1) g.height (omega (arith, r)), le_true 1 (column + 1) (omega arith), le_true (column + 1) g.width (omega (arith, c)), a, b) refl

pub place_parts : (row column : ℕ) → row < 2 ^ 64 → column < 2 ^ 64 → slice_split (λ b. b == 59) (decimal row ++ (codes ";" ++ decimal column)) ≡ decimal row ∷ decimal column ∷ []
place_parts row column r c = next_field (decimal row) (decimal column) (decimal_digits row r) ∙ ap (λ l. decimal row ∷ l) (one_field (decimal column) (decimal_digits column c))

pub moved : (row column : ℕ) (g : Grid) → row < g.height → column < g.width → row < 2 ^ 32 → column < 2 ^ 32
    → run (move_to column row) g ≡ Some (record g { cursor = Some (row * g.width + column); printed = None })
moved row column g r c rs cs =
    let parts = place_parts (row + 1) (column + 1) (omega (arith, rs)) (omega (arith, cs)) in
    let g1 : Grid = record g { printed = None } in
    let act_tokens : place_by (slice_split (λ b. b == 59) (decimal (row + 1) ++ (codes ";" ++ decimal (column + 1)))) g1 ≡ Some (row * g.width + column) =
    ap (λ p. place_by p g1) parts ∙ ap (λ n. place n (parameter_number (decimal (column + 1))) g1) (number_read (row + 1) (omega (arith, rs)))
    ∙ ap (λ n. place (Some (row + 1)) n g1) (number_read (column + 1) (omega (arith, cs))) ∙ place_read row column g1 r c in
    ap (λ o. elim (move_cursor o g1) [ None ↦ None | Some h ↦ Some h ]) act_tokens

-- ---- styles

-- An act that prints nothing.
abbrev pub SetsStyle : StyleAct → Type 0
SetsStyle (Prints cs) = ⊥
SetsStyle a = Unit {0}

-- What tokens of a style do: they set it, and if there are any, no mark goes to the character before them.
abbrev pub Restyles : List Token → Style → Grid → Type 0
Restyles ts s g = (p : Option ℕ) × (run ts g ≡ Some (record g { style = s; printed = p }))

style_tokens : (colors : ColorOutput) (acts : List StyleAct) → AllByRecursion SetsStyle acts → (g : Grid) → Restyles (act_tokens colors acts) (style_after (act_tokens colors acts) g.style) g
style_tokens colors [] h g = (g.printed, refl)
style_tokens colors (Prints cs ∷ acts) h g = absurd h.0
style_tokens colors (Colors c ∷ acts) h g = style_tokens colors acts h.1 _
style_tokens colors (Takes a ∷ acts) h g = style_tokens colors acts h.1 _

color_sets : (at : Color → Colored) (o : Option Color) → AllByRecursion SetsStyle (where_there at o)
color_sets at None = tt
color_sets at (Some c) = (tt, tt)

takes_set : (all : List Attribute) → AllByRecursion SetsStyle (map Takes all)
takes_set [] = tt
takes_set (a ∷ all) = (tt, takes_set all)

pub style_sets : (s : ContentStyle) → AllByRecursion SetsStyle (style_acts s)
style_sets s =
    all_joined SetsStyle (where_there BackgroundColor s.background_color) _ (color_sets BackgroundColor s.background_color)
    (all_joined SetsStyle (where_there ForegroundColor s.foreground_color) _ (color_sets ForegroundColor s.foreground_color)
    (all_joined SetsStyle (where_there UnderlineColor s.underline_color) _ (color_sets UnderlineColor s.underline_color) (takes_set (members s.attributes.0))))

from_plain : (colors : ColorOutput) (s : ContentStyle) (g : Grid) → AllByRecursion FitsAct (style_acts s) → g.style ≡ plain → Restyles (act_tokens colors (style_acts s)) (look colors s) g
from_plain colors s g fits is_plain =
    let set = style_tokens colors (style_acts s) (style_sets s) g in (
      set.0,
      set.1 ∙ ap (λ p. Some (record g { style = style_after (act_tokens colors (style_acts s)) p; printed = set.0 })) is_plain
          ∙ ap (λ p. Some (record g { style = p; printed = set.0 })) ((acts_show colors (style_acts s) plain fits).1),
    )

-- A style that is set from any.
pub styled : (colors : ColorOutput) (s : ContentStyle) (g : Grid) → AllByRecursion FitsAct (style_acts s) → Restyles (tokens colors (stroke.Style s)) (look colors s) g
styled colors s g fits =
    let reset : Grid = record g { style = plain; printed = None } in
    let set = from_plain colors s reset fits refl in
    (set.0, run_then (attribute_functions Reset) (act_tokens colors (style_acts s)) g reset refl ∙ set.1)

-- What colours make of any style.
colors_run : (colors : ColorOutput) (change : ContentStyle) (g : Grid) → AllByRecursion FitsAct (style_acts change) → Restyles (color_tokens colors change) (recolored_by colors change g.style) g
colors_run Enabled change g fits =
    let set = style_tokens Enabled (style_acts change) (style_sets change) g in
    (set.0, set.1 ∙ ap (λ p. Some (record g { style = p; printed = set.0 })) ((acts_show Enabled (style_acts change) g.style fits).1))
colors_run Disabled change g fits = (g.printed, refl)

no_acts : style_acts no_style ≡ []
unfolding members
no_acts = refl

-- The empty style looks plain.
pub looks_plain : (colors : ColorOutput) → look colors no_style ≡ plain
looks_plain colors = ap (λ acts. after_acts colors acts plain) no_acts

-- The empty style that is set from any.
pub plain_set : (colors : ColorOutput) (g : Grid) → run (tokens colors (stroke.Style no_style)) g ≡ Some (record g { style = plain; printed = None })
plain_set colors g = ap (λ acts. run (attribute_functions Reset ++ act_tokens colors acts) g) no_acts

-- ---- a character and its marks

-- The cells of a character and its marks.
abbrev texted : Bool → List ℕ → Style → List Square
texted wide text s = cond wide (First text s ∷ Second ∷ []) (Whole text s ∷ [])

by_two : (o : Option ℕ) → is_width 2 o ≡ true → is_width 1 o ≡ false
by_two None e = cc
by_two (Some w) e = let two : w ≡ 2 = grind (arith, nat_tests) in ap (λ n. n == 1) two

by_columns : (o : Option ℕ) → (is_width 1 o ≡ true) ⊎ (is_width 2 o ≡ true) → is_width 0 o ≡ false
by_columns None (inl e) = cc
by_columns None (inr e) = cc
by_columns (Some w) (inl e) = let one : w ≡ 1 = grind (arith, nat_tests) in ap (λ n. n == 0) one
by_columns (Some w) (inr e) = let two : w ≡ 2 = grind (arith, nat_tests) in ap (λ n. n == 0) two

-- Whether a character that is printed takes one cell.
one_of : (c : ℕ) → (takes_one c ≡ true) ⊎ (takes_two c ≡ true) → takes_two c ≡ false → takes_one c ≡ true
one_of c (inl e) f = e
one_of c (inr e) f = cc

-- The grid after a character without its marks.
abbrev bare : ColorOutput → Grid → ℕ → Cell → Grid
bare colors g at c = record g { cells = overwritten g.cells at (texted (is_wide c) (c.symbol ∷ []) (look colors c.style)); cursor = right_of g.width (last_place at c); style = look colors c.style; printed = Some at }

printed_by : (wide : Bool) (colors : ColorOutput) (c : Cell) (at : ℕ) (g : Grid) → is_wide c ≡ wide → (takes_one c.symbol ≡ true) ⊎ (takes_two c.symbol ≡ true) → (wide ≡ true → is_last g.width at ≡ false)
    → g.cursor ≡ Some at → g.style ≡ look colors c.style → print_at g.cursor c.symbol g ≡ Some (bare colors g at c)
printed_by false colors c at g w takes room cursor style =
    ap (λ o. print_at o c.symbol g) cursor
    ∙ ap (λ b. cond b (Some (print_one at c.symbol g)) (cond (takes_two c.symbol && not (is_last g.width at)) (Some (print_two at c.symbol g)) (control_at at c.symbol g))) (one_of c.symbol takes w)
    ∙ ap (λ s. Some (record g { cells = overwritten g.cells at (Whole (c.symbol ∷ []) s ∷ []); cursor = right_of g.width at; style = s; printed = Some at })) style
    ∙ ap (λ b. Some (record g { cells = overwritten g.cells at (texted b (c.symbol ∷ []) (look colors c.style)); cursor = right_of g.width (cond b (at + 1) at); style = look colors c.style; printed = Some at })) (sym w)
printed_by true colors c at g w takes room cursor style =
    ap (λ o. print_at o c.symbol g) cursor
    ∙ ap (λ b. cond b (Some (print_one at c.symbol g)) (cond (takes_two c.symbol && not (is_last g.width at)) (Some (print_two at c.symbol g)) (control_at at c.symbol g))) (by_two (char_width false c.symbol) w)
    ∙ ap (λ b. cond (b && not (is_last g.width at)) (Some (print_two at c.symbol g)) (control_at at c.symbol g)) w
    ∙ ap (λ b. cond (not b) (Some (print_two at c.symbol g)) (control_at at c.symbol g)) (room refl)
    ∙ ap (λ s. Some (record g { cells = overwritten g.cells at (First (c.symbol ∷ []) s ∷ Second ∷ []); cursor = right_of g.width (at + 1); style = s; printed = Some at })) style
    ∙ ap (λ b. Some (record g { cells = overwritten g.cells at (texted b (c.symbol ∷ []) (look colors c.style)); cursor = right_of g.width (cond b (at + 1) at); style = look colors c.style; printed = Some at })) (sym w)

-- A character that is printed does nothing else.
prints_alone : (c : ℕ) (g : Grid) → IsPrinted c → char_effect c g ≡ print_at g.cursor c g
prints_alone c g p =
    ap (λ b. cond b None (cond (takes_none c) (mark_at g.printed c g) (print_at g.cursor c g))) p.1
    ∙ ap (λ b. cond b (mark_at g.printed c g) (print_at g.cursor c g)) (by_columns (char_width false c) p.2)

-- ---- marks

not_true : (b : Bool) → not b ≡ true → b ≡ false
not_true true e = cc
not_true false e = refl

pub ended_length : (xs : List Square) → length (ended xs) ≡ length xs
ended_length [] = refl
ended_length (x ∷ []) = refl
ended_length (x ∷ y ∷ xs) = ap (λ n. suc n) (ended_length (y ∷ xs))

pub last_pushed : (text : List ℕ) (c : ℕ) → last_character (text ++ c ∷ []) ≡ c
last_pushed [] c = refl
last_pushed (a ∷ []) c = refl
last_pushed (a ∷ b ∷ text) c = last_pushed (b ∷ text) c

shown_there : (front rest : List Square) (x : Square) → get_or (front ++ x ∷ rest) (length front) Unknown ≡ x
shown_there [] rest x = refl
shown_there (y ∷ front) rest x = shown_there front rest x

marked_there : (front rest : List Square) (x : Square) (c : ℕ) → take (length front) (front ++ x ∷ rest) ++ first_marked c (drop (length front) (front ++ x ∷ rest)) ≡ front ++ with_mark c x ∷ rest
marked_there [] rest x c = refl
marked_there (y ∷ front) rest x c = ap (λ l. y ∷ l) (marked_there front rest x c)

-- What a mark does, by the cells before the one that it goes to and those behind it.
mark_added : (front rest : List Square) (x : Square) (at c : ℕ) (g : Grid) → length front ≡ at → g.cells ≡ front ++ x ∷ rest → is_mark_of (last_shown x) c ≡ true
    → mark_at (Some at) c g ≡ Some (record g { cells = front ++ with_mark c x ∷ rest })
mark_added front rest x at c g long is m =
    ap (λ l. cond (is_mark_of (last_shown (get_or l at Unknown)) c) (Some (record g { cells = take at l ++ first_marked c (drop at l) })) None) is
    ∙ ap (λ n. cond (is_mark_of (last_shown (get_or (front ++ x ∷ rest) n Unknown)) c) (Some (record g { cells = take n (front ++ x ∷ rest) ++ first_marked c (drop n (front ++ x ∷ rest)) })) None) (sym long)
    ∙ ap (λ y. cond (is_mark_of (last_shown y) c) (Some (record g { cells = take (length front) (front ++ x ∷ rest) ++ first_marked c (drop (length front) (front ++ x ∷ rest)) })) None) (shown_there front rest x)
    ∙ ap (λ b. cond b (Some (record g { cells = take (length front) (front ++ x ∷ rest) ++ first_marked c (drop (length front) (front ++ x ∷ rest)) })) None) m
    ∙ ap (λ l. Some (record g { cells = l })) (marked_there front rest x c)

-- A mark does nothing else.
marks_alone : (last c : ℕ) (g : Grid) → is_mark_of last c ≡ true → char_effect c g ≡ mark_at g.printed c g
marks_alone last c g m =
    let parts = and_parts (takes_none c && not (is_joined c)) (is_kept_with last c) m in
    let ends = and_parts (takes_none c) (not (is_joined c)) parts.0 in
    ap (λ b. cond b None (cond (takes_none c) (mark_at g.printed c g) (print_at g.cursor c g))) (not_true (is_joined c) ends.1)
    ∙ ap (λ b. cond b (mark_at g.printed c g) (print_at g.cursor c g)) ends.0

-- A mark goes to the character that was printed last.
mark_step : (wide : Bool) (text : List ℕ) (s : Style) (old : List Square) (at c : ℕ) (g : Grid) → at ≤ length old → g.cells ≡ overwritten old at (texted wide text s) → g.printed ≡ Some at
    → is_mark_of (last_character text) c ≡ true → char_effect c g ≡ Some (record g { cells = overwritten old at (texted wide (text ++ c ∷ []) s) })
mark_step true text s old at c g le is there m =
    marks_alone (last_character text) c g m ∙ ap (λ o. mark_at o c g) there
    ∙ mark_added (ended (take at old)) (Second ∷ begun (drop (at + 2) old)) (First text s) at c g (ended_length (take at old) ∙ length-take-le at old le) is m
mark_step false text s old at c g le is there m =
    marks_alone (last_character text) c g m ∙ ap (λ o. mark_at o c g) there
    ∙ mark_added (ended (take at old)) (begun (drop (at + 1) old)) (Whole text s) at c g (ended_length (take at old) ∙ length-take-le at old le) is m

-- Marks go to it one after another.
marks_run : (wide : Bool) (marks text : List ℕ) (s : Style) (old : List Square) (at : ℕ) (g : Grid) → at ≤ length old → g.cells ≡ overwritten old at (texted wide text s) → g.printed ≡ Some at
    → AreMarks (last_character text) marks → run (map Char marks) g ≡ Some (record g { cells = overwritten old at (texted wide (text ++ marks) s) })
marks_run wide [] text s old at g le is there m = ap (λ l. Some (record g { cells = l })) (is ∙ ap (λ l. overwritten old at (texted wide l s)) (sym (append-nil text)))
marks_run wide (c ∷ marks) text s old at g le is there m =
    ap (λ o. elim o [ None ↦ None | Some h ↦ run (map Char marks) h ]) (mark_step wide text s old at c g le is there m.1)
    ∙ marks_run wide marks (text ++ c ∷ []) s old at (record g { cells = overwritten old at (texted wide (text ++ c ∷ []) s) }) le refl there
    (subst (λ k. AreMarks k marks) (sym (last_pushed text c)) m.2)
    ∙ ap (λ l. Some (record g { cells = overwritten old at (texted wide l s) })) (append_assoc text (c ∷ []) marks)

-- ---- a cell

abbrev pub painted : ColorOutput → Grid → ℕ → Cell → Grid
painted colors g at c = record g { cells = overwritten g.cells at (squares colors c); cursor = right_of g.width (last_place at c); style = look colors c.style; printed = Some at }

-- A character and its marks that are printed at the cursor.
pub printed_all : (colors : ColorOutput) (c : Cell) (at : ℕ) (g : Grid) → FitsCell (shown_text c) → (is_wide c ≡ true → is_last g.width at ≡ false) → at ≤ length g.cells
    → g.cursor ≡ Some at → g.style ≡ look colors c.style → run (Char c.symbol ∷ map Char c.marks) g ≡ Some (painted colors g at c)
printed_all colors c at g held room le cursor style =
    ap (λ o. elim o [ None ↦ None | Some h ↦ run (map Char c.marks) h ]) (prints_alone c.symbol g held.0 ∙ printed_by (is_wide c) colors c at g refl held.0.2 room cursor style)
    ∙ marks_run (is_wide c) c.marks (c.symbol ∷ []) (look colors c.style) g.cells at (bare colors g at c) le refl refl held.1

pub moved_if : (colors : ColorOutput) (there : Bool) (row column : ℕ) (g : Grid) → row < g.height → column < g.width → row < 2 ^ 32 → column < 2 ^ 32
    → (there ≡ true → g.cursor ≡ Some (row * g.width + column))
    → (p : Option ℕ) × (run (tokens_of colors (move_strokes there column row)) g ≡ Some (record g { cursor = Some (row * g.width + column); printed = p }))
moved_if colors true row column g r k rs ks h = (g.printed, ap (λ o. Some (record g { cursor = o })) (h refl))
moved_if colors false row column g r k rs ks h = (None, moved row column g r k rs ks)

-- A style that is set after another one.
pub styled_from : (colors : ColorOutput) (set : Option ContentStyle) (to : ContentStyle) (how : Setting) (g : Grid) → Sets set to how → HasByteColors how → ((s : ContentStyle) → set ≡ Some s → g.style ≡ look colors s)
    → Restyles (tokens_of colors (style_strokes how)) (look colors to) g
styled_from colors None to setting.Kept g is fits h = cc
styled_from colors None to (setting.Colors change) g is fits h = cc
styled_from colors (Some from) to setting.Kept g is fits h = (g.printed, ap (λ p. Some (record g { style = p })) (h from refl ∙ ap (look colors) is))
styled_from colors (Some from) to (setting.Colors change) g is fits h =
    let set = colors_run colors change g fits in (
      set.0,
      ap (λ ts. run ts g) (append-nil (tokens colors (stroke.Colors change))) ∙ set.1
          ∙ ap (λ p. Some (record g { style = recolored_by colors change p; printed = set.0 })) (h from refl)
          ∙ ap (λ p. Some (record g { style = p; printed = set.0 })) (recolored colors from to change is.1 is.2),
    )
styled_from colors None to (setting.Whole s) g is fits h =
    let set = styled colors s g fits in (
      set.0,
      ap (λ ts. run ts g) (append-nil (tokens colors (stroke.Style s))) ∙ set.1
          ∙ ap (λ k. Some (record g { style = look colors (elim k [ setting.Kept ↦ to | setting.Colors t ↦ to | setting.Whole t ↦ t ]); printed = set.0 })) is,
    )
styled_from colors (Some from) to (setting.Whole s) g is fits h =
    let set = styled colors s g fits in
    (set.0, ap (λ ts. run ts g) (append-nil (tokens colors (stroke.Style s))) ∙ set.1 ∙ ap (λ t. Some (record g { style = look colors t; printed = set.0 })) is.1)

pub cell_painted : (colors : ColorOutput) (there : Bool) (set : Option ContentStyle) (how : Setting) (row column : ℕ) (c : Cell) (g : Grid) → row < g.height → column < g.width → row < 2 ^ 32 → column < 2 ^ 32
    → row * g.width + column ≤ length g.cells → Sets set c.style how → HasByteColors how → FitsCell (shown_text c) → (is_wide c ≡ true → is_last g.width (row * g.width + column) ≡ false)
    → (there ≡ true → g.cursor ≡ Some (row * g.width + column)) → ((s : ContentStyle) → set ≡ Some s → g.style ≡ look colors s)
    → run (tokens_of colors (cell_strokes there how column row c)) g ≡ Some (painted colors g (row * g.width + column) c)
cell_painted colors there set how row column c g r k rs ks le is fits held room at_place is_set =
    let at = row * g.width + column in
    let print : List Stroke = stroke.Print c.symbol c.marks ∷ [] in
    let moves = moved_if colors there row column g r k rs ks at_place in
    let g1 : Grid = record g { cursor = Some at; printed = moves.0 } in
    let styles = styled_from colors set c.style how g1 is fits is_set in
    let g3 : Grid = record g { cursor = Some at; style = look colors c.style; printed = styles.0 } in
    let prints : run (tokens_of colors print) g3 ≡ Some (painted colors g at c) =
    ap (λ ts. run ts g3) (append-nil (Char c.symbol ∷ map Char c.marks)) ∙ printed_all colors c at g3 held room le refl refl in
    runs_then colors (move_strokes there column row) (style_strokes how ++ print) g g1 moves.1
    ∙ runs_then colors (style_strokes how) print g1 g3 styles.1
    ∙ prints
