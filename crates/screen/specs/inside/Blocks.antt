-- The parts of a block's frame.
use Rattle.std.specs.Prelude.{◌≡◌, ◌⊎◌, ℕ, ◌+◌, ◌-◌, ◌<◌, max, List, [], ◌∷◌, ◌++◌, Option}
use Rattle.std.specs.List.{AllByRecursion}
use Rattle.crossterm_command.specs.Controls.{set}
use Rattle.crossterm_command.specs.Tokens.{IsWellFormed, Token, text_of}
use Rattle.crossterm_command.specs.Tokens.Token.{Char}
use Rattle.crossterm_command.specs.declared.color_output.ColorOutput.{ColorOutput}
use Rattle.crossterm_style.specs.declared.types.attribute.Attribute.TheVariants.{Reset}
use Rattle.crossterm_style.specs.Styles.{attribute_functions}
use Rattle.crossterm.specs.Sequences.{by, clear}
use Rattle.crossterm.specs.declared.terminal.ClearType.TheVariants.{UntilNewLine}
use Rattle.screen.specs.declared.pens.Pen.{Pen}
use Rattle.screen.specs.declared.steps.Step.{Step}
use Rattle.screen.specs.declared.steps.Step.TheVariants as step
use Rattle.screen.specs.Blocks.{Visits, beginning, begun_column, grown_column, grown_row, growth, row_picture, row_strip, cut_rows, to_row}
use Rattle.screen.specs.Cells.{Cell}
use Rattle.screen.specs.Strips.{IsShortFrame}
use Rattle.screen.specs.inside.Pens.{PutsText}

-- The tokens of a step.
abbrev pub step_tokens : Step → List Token
step_tokens (step.Up n) = by n "A"
step_tokens (step.Down n) = by n "B"
step_tokens (step.Column column) = by (column + 1) "G"
step_tokens step.Add = Char 0x0D ∷ Char 0x0A ∷ clear UntilNewLine
step_tokens step.Settle = attribute_functions Reset ++ (set "25" ++ by 1 "G")
step_tokens step.Erase = clear UntilNewLine

-- The tokens are well formed, and their text is appended to the pen's waiting bytes.
abbrev pub PutsTokens : List Token → Option (List ℕ) → Pen → Option (List ℕ) → Pen → Type 0
PutsTokens ts old pen new next = AllByRecursion IsWellFormed ts × PutsText (text_of ts) old pen new next

-- One row of a block, and what is put for it. The cursor is in a column and a row before, and in others behind that.
abbrev pub VisitsRow : ℕ → ColorOutput → List Cell → List Cell → ℕ → ℕ × ℕ → ℕ × ℕ → List Token → Type 0
VisitsRow width colors before after row at to ts =
    ((before ≡ after) × (to ≡ at) × (ts ≡ []))
    ⊎ ((before ≡ after → ⊥) × (to.1 ≡ row) × (to.0 < width)
    × (frame : List Token) × (ts ≡ to_row at.1 row ++ frame) × IsShortFrame (row_strip width colors before) colors (row_picture width after) at.0 to.0 frame)

-- The tokens lead on the way over a block's rows from some rows and a cursor's place to others.
abbrev pub Walks : ℕ → ColorOutput → List (List Cell) → List (List Cell) → ℕ × ℕ → List Token → List (List Cell) → ℕ × ℕ → Type 0
Walks width colors after rows at ts others to =
    (column row : ℕ) (more : List Token) → Visits width colors after column row others to.1 to.0 more → Visits width colors after column row rows at.1 at.0 (ts ++ more)

-- The tokens of a frame of a block, of which so many rows are known. `before` has as many rows as the picture.
pub record PlannedBlock (width height known : ℕ) (colors : ColorOutput) (column : Option ℕ) (row : ℕ) (before after : List Cell) (end_column end_row : ℕ) (ts : List Token) : Type 0 where
  pub visiting : List Token
  pub parts : ts ≡ beginning known column ++ (growth (max known 1) row (height - max known 1) ++ visiting)
  pub visits : Visits width colors (cut_rows width height after) end_column end_row (cut_rows width height before) (grown_row (max known 1) row (height - max known 1)) (grown_column (begun_column column) (height - max known 1)) visiting
