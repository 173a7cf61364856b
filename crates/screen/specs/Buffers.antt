-- Pictures: the cells of a buffer.
use Rattle.std.specs.Prelude.{ℕ, Bool, ◌+◌, ◌-◌, ◌*◌, ◌%◌, ◌&&◌, ◌==◌, nat_lt, List, [], ◌∷◌, Option, Some, None, if◌then◌else◌, map, replicate}
use Rattle.std.specs.List.{range_with_len}
use Rattle.crossterm_style.specs.declared.content_style.ContentStyle.{ContentStyle}
use Rattle.screen.specs.declared.faults.CellFault.{CellFault}
use Rattle.screen.specs.declared.faults.CellFault.TheVariants.{LastColumn, Outside}
use Rattle.screen.specs.Cells.{Cell, symbol_fault}
use Rattle.screen.specs.Grids.{takes_two}
use Rattle.screen.specs.Overwriting.{cells_with, covered, overwritten}
use Rattle.screen.specs.Texts.{cells_of, within}

-- The contents of a buffer: its cells row by row, from the top left one.
pub record Picture : Type 0 where
  pub width : ℕ
  pub height : ℕ
  pub cells : List Cell
  -- How many cells there is memory for.
  pub room : ℕ

-- A picture of this size with the same cell in every place, and memory for `room` cells.
abbrev pub filled : ℕ → ℕ → Cell → ℕ → Picture
filled width height c room = record { width = width; height = height; cells = replicate (width * height) c; room = room }

-- Whether the picture has this column and this row.
abbrev pub has_place : Picture → ℕ → ℕ → Bool
has_place p column row = nat_lt column p.width && nat_lt row p.height

-- Whether a character takes two columns but begins in the last one.
abbrev pub is_cut : ℕ → ℕ → ℕ → Bool
is_cut width column symbol = takes_two symbol && (column + 1 == width)

-- The fault of a character in a column of a row: its own fault, else `LastColumn` if it is cut, else `None`.
abbrev pub column_refusal : ℕ → ℕ → ℕ → Option CellFault
column_refusal width column symbol =
    elim (symbol_fault symbol) [ Some fault ↦ Some fault | None ↦ if is_cut width column symbol then Some LastColumn else None ]

-- `Outside` if the picture hasn't the place, otherwise the fault of the character in its column, if any.
abbrev pub refusal : Picture → ℕ → ℕ → ℕ → Option CellFault
refusal p column row symbol = if has_place p column row then column_refusal p.width column symbol else Some Outside

-- The picture after the cells of a character overwrite those from a column of a row on.
abbrev pub with_symbol : Picture → ℕ → ℕ → ℕ → ContentStyle → Picture
with_symbol p column row symbol s = record p { cells = overwritten p.cells (row * p.width + column) (cells_with s (symbol ∷ [])) }

-- ---- one character everywhere

-- The cell in a column of a row filled with a wide character. Odd columns are covered, and a last column that is left
-- over is a space.
abbrev pub pair_cell : ℕ → ℕ → ContentStyle → ℕ → Cell
pair_cell width symbol s column =
    if column % 2 == 1 then covered s else (
    if column + 1 == width then record { symbol = 32; marks = []; style = s } else (
    record { symbol = symbol; marks = []; style = s }))

-- The first `count` cells of rows of this width, each row filled with the character.
abbrev pub fill_cells : ℕ → ℕ → ℕ → ContentStyle → List Cell
fill_cells width count symbol s =
    if takes_two symbol then map (λ k. pair_cell width symbol s (k % width)) (range_with_len 0 count)
    else replicate count (record { symbol = symbol; marks = []; style = s })

-- The picture with each row filled with a character.
abbrev pub filled_with : Picture → ℕ → ContentStyle → Picture
filled_with p symbol s = record p { cells = fill_cells p.width (p.width * p.height) symbol s }

-- ---- texts

-- `Outside` if the picture hasn't the row, otherwise the other fault, if any.
abbrev pub print_refusal : Picture → ℕ → Option CellFault → Option CellFault
print_refusal p row other = if nat_lt row p.height then other else Some Outside

-- The longest prefix of a text that fits into a row from a column on.
abbrev pub clipped : Picture → ℕ → List (List ℕ) → List (List ℕ)
clipped p column text = within (p.width - column) text

-- The picture after the cells of a text overwrite those from a column of a row on. The text isn't clipped.
abbrev pub with_shown : Picture → ℕ → ℕ → List (List ℕ) → ContentStyle → Picture
with_shown p column row text s = record p { cells = overwritten p.cells (row * p.width + column) (cells_of s text) }

-- The picture after a text, clipped to the row, overwrites the cells from a column on.
abbrev pub with_text : Picture → ℕ → ℕ → List (List ℕ) → ContentStyle → Picture
with_text p column row text s = with_shown p column row (clipped p column text) s
