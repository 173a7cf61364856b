-- Cells of a buffer: a character in its style.
use Rattle.std.specs.Prelude.{◌≡◌, ◌⊎◌, ℕ, ◌+◌, ◌<◌, ◌%◌, ◌==◌, Bool, List, [], ◌∷◌, Option, Some, None, true, false, if◌then◌else◌, get_or, length, nat_le}
use Rattle.std.specs.Char.{IsScalar}
use Rattle.std.specs.List.{All}
use Rattle.unicode_width.specs.Width.{char_width}
use Rattle.crossterm_command.specs.declared.color_output.ColorOutput.{ColorOutput}
use Rattle.crossterm_style.specs.declared.content_style.ContentStyle.{ContentStyle}
use Rattle.crossterm_style.specs.Acts.{after_acts, style_acts}
use Rattle.crossterm_style.specs.Looks.{Style, plain}
use Rattle.crossterm_style.specs.Styles.{no_style}
use Rattle.screen.specs.declared.faults.CellFault.{CellFault}
use Rattle.screen.specs.declared.faults.CellFault.TheVariants.{Control, Joined, NoWidth, Wide}
use Rattle.screen.specs.Grids.{Square, takes_one, takes_two}
use Rattle.screen.specs.Grids.Square.{Whole, First, Second}
use Rattle.screen.specs.Marks.{AreMarks, is_joined}

-- A cell of a buffer: a character with its marks, and its style.
pub record Cell : Type 0 where
  pub symbol : ℕ
  pub marks : List ℕ
  pub style : ContentStyle

-- A space in the empty style.
abbrev pub blank : Cell
blank = record { symbol = 32; marks = []; style = no_style }

-- The look that a style gives: what its colours and attributes make of the plain look.
abbrev pub look : ColorOutput → ContentStyle → Style
look colors s = after_acts colors (style_acts s) plain

-- Whether a cell is the second one of a wide character. Such a cell has the character 0.
abbrev pub is_covered : Cell → Bool
is_covered c = c.symbol == 0

-- Whether a cell's character takes two cells, so that it is the first of them.
abbrev pub is_wide : Cell → Bool
is_wide c = takes_two c.symbol

-- The last place that the character of the cell at a place takes.
abbrev pub last_place : ℕ → Cell → ℕ
last_place at c = if is_wide c then at + 1 else at

-- What a cell that isn't covered shows: its character and the marks.
abbrev pub shown_text : Cell → List ℕ
shown_text c = c.symbol ∷ c.marks

-- How a cell looks on a terminal: as a second cell, a first cell, or the whole of a character.
abbrev pub cell_look : ColorOutput → Cell → Square
cell_look colors c = if is_covered c then Second else (if is_wide c then First (shown_text c) (look colors c.style) else Whole (shown_text c) (look colors c.style))

-- A Unicode scalar value that takes one cell or two, and that terminals don't join with its neighbours.
abbrev pub IsPrinted : ℕ → Type 0
IsPrinted c = IsScalar c × (is_joined c ≡ false) × ((takes_one c ≡ true) ⊎ (takes_two c ≡ true))

-- A character that takes one cell or two, and marks of it.
abbrev pub FitsCell : List ℕ → Type 0
FitsCell [] = ⊥
FitsCell (c ∷ marks) = IsPrinted c × AreMarks c marks

-- A cell that is covered, or has a character that takes one cell or two, and marks of it.
abbrev pub IsPlaced : Cell → Type 0
IsPlaced c = (is_covered c ≡ true) ⊎ ((is_covered c ≡ false) × FitsCell (shown_text c))

-- Each wide cell is followed by a covered one, and no other cell is covered. `first` says if the cell before these is
-- wide.
abbrev pub ArePaired : Bool → List Cell → Type 0
ArePaired first [] = first ≡ false
ArePaired first (c ∷ cells) = (is_covered c ≡ first) × ArePaired (is_wide c) cells

-- No wide character begins in the last cell of a row.
abbrev pub StayInRows : ℕ → List Cell → Type 0
StayInRows width cells = (k : ℕ) (d : Cell) → k < length cells → is_wide (get_or cells k d) ≡ true → ((k + 1) % width == 0) ≡ false

-- Cells in rows of this width. Each character has all of its cells, side by side in one row.
pub record AreLaidOut (width : ℕ) (cells : List Cell) : Type 0 where
  pub placed : All IsPlaced cells
  pub paired : ArePaired false cells
  pub rows : StayInRows width cells

-- The fault of a character of this width: `Control` without a width, `NoWidth` if it is 0, `Wide` above 2, otherwise
-- `None`.
abbrev pub fault_of : Option ℕ → Option CellFault
fault_of None = Some Control
fault_of (Some width) = if width == 0 then Some NoWidth else (if nat_le width 2 then None else Some Wide)

-- Why cells can't hold a character, or `None` if they can: by its width, and `Joined` for one that terminals join with
-- its neighbours.
abbrev pub symbol_fault : ℕ → Option CellFault
symbol_fault c = if is_joined c then Some Joined else fault_of (char_width false c)
