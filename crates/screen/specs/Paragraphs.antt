-- Texts that are wrapped into rows. Their cells are those of all rows, one row behind another.
use Rattle.std.specs.Prelude.{ℕ, ◌+◌, ◌-◌, ◌*◌, ◌%◌, ◌==◌, nat_le, Bool, false, List, [], ◌∷◌, ◌++◌, if◌then◌else◌, drop, length, replicate, take}
use Rattle.crossterm_style.specs.declared.content_style.ContentStyle.{ContentStyle}
use Rattle.screen.specs.Buffers.{Picture}
use Rattle.screen.specs.Cells.{Cell, blank}
use Rattle.screen.specs.Overwriting.{cells_with}
use Rattle.screen.specs.Texts.{fitting, part_columns}

-- Texts that are wrapped.
pub record ParagraphView : Type 0 where
  -- How many columns a row has.
  pub width : ℕ
  -- The cells, row by row. The last row may have fewer.
  pub cells : List Cell
  -- How many cells there is memory for.
  pub room : ℕ

-- How many columns are left in the last row of so many cells. They are all if it would begin behind these.
abbrev pub columns_left : ℕ → ℕ → ℕ
columns_left width count = width - count % width

-- Whether a part of a text is a line feed.
abbrev pub is_feed : List ℕ → Bool
is_feed [] = false
is_feed (c ∷ marks) = c == 10

-- Blanks up to the end of the last row, if it has no room for so many columns.
abbrev pub blanks_before : ℕ → ℕ → ℕ → List Cell
blanks_before width count columns = if nat_le columns (columns_left width count) then [] else replicate (columns_left width count) blank

-- The cells that a part adds to so many others, by its style. It is in one row. If no row has room for it, it is left
-- out.
abbrev pub placed_part : ContentStyle → ℕ → ℕ → List ℕ → List Cell
placed_part s width count p = if nat_le (part_columns p) width then blanks_before width count (part_columns p) ++ cells_with s p else []

-- The same for any part: a line feed ends the row, and what no cell can hold becomes U+FFFD.
abbrev pub part_cells : ContentStyle → ℕ → ℕ → List ℕ → List Cell
part_cells s width count p = if is_feed p then replicate (columns_left width count) blank else placed_part s width count (fitting 0xFFFD p)

-- The cells that the parts of a text add to so many others.
abbrev pub wrapped : ContentStyle → ℕ → ℕ → List (List ℕ) → List Cell
wrapped s width count [] = []
wrapped s width count (p ∷ text) = part_cells s width count p ++ wrapped s width (count + length (part_cells s width count p)) text

-- So many of these cells, and blank ones if there are fewer.
abbrev pub padded : ℕ → List Cell → List Cell
padded n cells = take n (cells ++ replicate n blank)

-- The picture of so many rows of these cells, from a row on.
abbrev pub rows_picture : ℕ → ℕ → ℕ → List Cell → ℕ → Picture
rows_picture width height first cells room = record { width = width; height = height; cells = padded (width * height) (drop (first * width) cells); room = room }
