-- Strokes that are written read as their tokens.
use Rattle.std.proofs.Common.{◌≡◌, ℕ, ◌+◌, Bool, true, false, List, [], ◌∷◌, ◌++◌, ◌⊎◌, inl, inr, refl, sym, ap, ◌∙◌, subst, arith, codes, map}
use Rattle.std.specs.Prelude.{encode_utf8, encode_utf8_all}
use Rattle.std.specs.Bool.{⊤}
use Rattle.std.specs.Fmt.{decimal}
use Rattle.std.specs.List.{AllByRecursion}
use Rattle.unicode_width.specs.Width.{char_width}
use Rattle.crossterm_command.specs.Tokens.{IsParameter, IsPlain, IsWellFormed, ReadsAs, text_of}
use Rattle.crossterm_command.specs.Tokens.Token.{Char}
use Rattle.crossterm_command.specs.declared.color_output.ColorOutput.{ColorOutput}
use Rattle.crossterm_command.specs.declared.color_output.ColorOutput.TheVariants.{Enabled, Disabled}
use Rattle.crossterm_command.proofs.Readings.{all_joined, control_formed, decimal_is_parameters, known_formed, parameters_at}
use Rattle.crossterm_style.specs.declared.types.attribute.Attribute.TheVariants.{Reset}
use Rattle.crossterm_style.specs.declared.content_style.ContentStyle.{ContentStyle}
use Rattle.crossterm_style.specs.Acts.{style_acts}
use Rattle.crossterm_style.specs.Styles.{attribute_functions, act_tokens}
use Rattle.crossterm.specs.Sequences.{by, clear}
use Rattle.crossterm.specs.declared.terminal.ClearType.TheVariants.{All, UntilNewLine}
use Rattle.crossterm.proofs.StyleReadings.{Formed, attribute_formed, style_plain, tokens_formed}
use Rattle.screen.specs.declared.starts.Start.{Start}
use Rattle.screen.specs.declared.starts.Start.TheVariants as start
use Rattle.screen.specs.declared.strokes.Stroke.{Stroke}
use Rattle.screen.specs.declared.strokes.Stroke.TheVariants as stroke
use Rattle.screen.specs.Grids.{takes_one, takes_two}
use Rattle.screen.specs.Cells.{FitsCell}
use Rattle.screen.specs.Marks.{AreMarks, is_mark_of}
use Rattle.screen.proofs.Marking.{mark_is_high}
use Rattle.screen.specs.inside.Strokes.{AreFitting, IsFitting, color_tokens, first_strokes, tokens, written, written_of}

-- The text of characters, one after another.
pub characters_text : (text : List ℕ) → encode_utf8_all text ≡ text_of (map Char text)
characters_text [] = refl
characters_text (c ∷ text) = ap (λ l. encode_utf8 c ++ l) (characters_text text)

-- A character that is printed isn't ESC.
escape_takes_no_cell : takes_one 0x1B ≡ false
unfolding char_width
escape_takes_no_cell = refl

escape_takes_no_two : takes_two 0x1B ≡ false
unfolding char_width
escape_takes_no_two = refl

-- Nor is a mark.
mark_plain : (last c : ℕ) → is_mark_of last c ≡ true → IsPlain c
mark_plain last c m e = omega (arith, mark_is_high last c m, e)

marks_formed : (last : ℕ) (marks : List ℕ) → AreMarks last marks → Formed (map Char marks)
marks_formed last [] a = tt
marks_formed last (m ∷ marks) a = ((a.0, mark_plain last m a.1), marks_formed m marks a.2)

printed_plain : (c : ℕ) → (takes_one c ≡ true) ⊎ (takes_two c ≡ true) → IsPlain c
printed_plain c (inl f) e = let no : true ≡ false = sym f ∙ ap takes_one e ∙ escape_takes_no_cell in cc
printed_plain c (inr f) e = let no : true ≡ false = sym f ∙ ap takes_two e ∙ escape_takes_no_two in cc

-- Two numbers with a semicolon between them.
two_formed : (m n : ℕ) → AllByRecursion IsParameter (decimal m ++ (codes ";" ++ decimal n))
two_formed m n =
    all_joined IsParameter (decimal m) (codes ";" ++ decimal n) (decimal_is_parameters m)
    (all_joined IsParameter (codes ";") (decimal n) (parameters_at (codes ";") refl) (decimal_is_parameters n))

colors_formed : (colors : ColorOutput) (change : ContentStyle) → Formed (color_tokens colors change)
colors_formed Enabled change = tokens_formed Enabled (style_acts change) (style_plain change)
colors_formed Disabled change = tt

-- A stroke that prints what a cell can hold, if it prints anything.
abbrev IsRead : Stroke → Type 0
IsRead (stroke.Print c marks) = FitsCell (c ∷ marks)
IsRead s = ⊤

stroke_formed : (colors : ColorOutput) (s : Stroke) → IsRead s → Formed (tokens colors s)
stroke_formed colors stroke.Begin f = known_formed (tokens colors stroke.Begin) refl
stroke_formed colors stroke.End f = known_formed (tokens colors stroke.End) refl
stroke_formed colors stroke.Erase f = known_formed (clear All) refl
stroke_formed colors (stroke.Move column row) f = control_formed _ "H" (two_formed (row + 1) (column + 1)) refl
stroke_formed colors (stroke.Style s) f =
    all_joined IsWellFormed (attribute_functions Reset) (act_tokens colors (style_acts s)) (attribute_formed Reset) (tokens_formed colors (style_acts s) (style_plain s))
stroke_formed colors (stroke.Colors change) f = colors_formed colors change
stroke_formed colors (stroke.Print c marks) f = ((f.0.0, printed_plain c f.0.2), marks_formed c marks f.1)
stroke_formed colors stroke.Show f = known_formed (tokens colors stroke.Show) refl
stroke_formed colors stroke.Hide f = known_formed (tokens colors stroke.Hide) refl

row_formed : (colors : ColorOutput) (s : Stroke) → IsRead s → Formed (written true colors s)
row_formed colors stroke.Begin f = stroke_formed colors stroke.Begin f
row_formed colors stroke.End f = stroke_formed colors stroke.End f
row_formed colors stroke.Erase f =
    all_joined IsWellFormed (by 1 "G") (clear UntilNewLine) (control_formed (decimal 1) "G" (decimal_is_parameters 1) refl) (known_formed (clear UntilNewLine) refl)
row_formed colors (stroke.Move column row) f = control_formed (decimal (column + 1)) "G" (decimal_is_parameters (column + 1)) refl
row_formed colors (stroke.Style s) f = stroke_formed colors (stroke.Style s) f
row_formed colors (stroke.Colors change) f = stroke_formed colors (stroke.Colors change) f
row_formed colors (stroke.Print c marks) f = stroke_formed colors (stroke.Print c marks) f
row_formed colors stroke.Show f = stroke_formed colors stroke.Show f
row_formed colors stroke.Hide f = stroke_formed colors stroke.Hide f

written_formed : (in_row : Bool) (colors : ColorOutput) (s : Stroke) → IsRead s → Formed (written in_row colors s)
written_formed true colors s f = row_formed colors s f
written_formed false colors s f = stroke_formed colors s f

strokes_formed : (in_row : Bool) (colors : ColorOutput) (strokes : List Stroke) → AllByRecursion IsRead strokes → Formed (written_of in_row colors strokes)
strokes_formed in_row colors [] f = tt
strokes_formed in_row colors (s ∷ strokes) f =
    all_joined IsWellFormed (written in_row colors s) (written_of in_row colors strokes) (written_formed in_row colors s f.0) (strokes_formed in_row colors strokes f.1)

first_read : (known : Start) → AllByRecursion IsRead (first_strokes known)
first_read start.Nothing = (tt, (tt, (tt, tt)))
first_read start.Cells = (tt, tt)
first_read (start.All at) = tt

fitting_read : (s : Stroke) → IsFitting s → IsRead s
fitting_read stroke.Begin f = tt
fitting_read stroke.End f = tt
fitting_read stroke.Erase f = tt
fitting_read (stroke.Move column row) f = tt
fitting_read (stroke.Style s) f = tt
fitting_read (stroke.Colors change) f = tt
fitting_read (stroke.Print c marks) f = f
fitting_read stroke.Show f = tt
fitting_read stroke.Hide f = tt

later_read : (strokes : List Stroke) → AllByRecursion IsFitting strokes → AllByRecursion IsRead strokes
later_read [] f = tt
later_read (s ∷ strokes) f = (fitting_read s f.0, later_read strokes f.1)

-- Their text reads as their tokens.
pub strokes_read : (in_row : Bool) (colors : ColorOutput) (known : Start) (strokes : List Stroke) → AreFitting known strokes → ReadsAs (text_of (written_of in_row colors strokes)) (written_of in_row colors strokes)
strokes_read in_row colors known strokes f = (
  subst (λ l. Formed (written_of in_row colors l)) (sym f.1)
      (strokes_formed in_row colors (first_strokes known ++ f.0) (all_joined IsRead (first_strokes known) f.0 (first_read known) (later_read f.0 f.2))),
  refl,
)
