-- Rectangles of a picture: a style for one, and a character in all of its places.
use Rattle.std.specs.Prelude.{ℕ, Bool, ◌+◌, ◌-◌, ◌/◌, ◌%◌, ◌&&◌, nat_le, nat_lt, List, [], ◌∷◌, if◌then◌else◌, flat_map}
use Rattle.std.specs.List.{range_with_len}
use Rattle.crossterm_style.specs.declared.content_style.ContentStyle.{ContentStyle}
use Rattle.screen.specs.declared.rects.Rect.{Rect}
use Rattle.screen.specs.Borders.{Stamp, across, with_stamps}
use Rattle.screen.specs.Buffers.{Picture}
use Rattle.screen.specs.Cells.{Cell, is_covered}

-- Whether `one` is among the `count` columns or rows from `first` on.
abbrev pub span_has : ℕ → ℕ → ℕ → Bool
span_has first count one = nat_le first one && nat_lt one (first + count)

-- Whether the character of the cell at this place begins in the rectangle. A covered cell's character begins in the
-- column before.
abbrev pub begins_in : Rect → ℕ → ℕ → Cell → Bool
begins_in r column row c = span_has r.y r.height row && span_has r.x r.width (if is_covered c then column - 1 else column)

-- A cell, with this style if its character begins in the rectangle, otherwise unchanged.
abbrev pub styled : Rect → ContentStyle → ℕ → ℕ → Cell → Cell
styled r s column row c = if begins_in r column row c then record c { style = s } else c

-- Cells that are side by side from the place `at` on, each with this style if its character begins in the rectangle.
abbrev pub styled_from : ℕ → Rect → ContentStyle → ℕ → List Cell → List Cell
styled_from width r s at [] = []
styled_from width r s at (c ∷ cells) = styled r s (at % width) (at / width) c ∷ styled_from width r s (at + 1) cells

-- The picture with this style for each character that begins in the rectangle.
abbrev pub with_style : Picture → Rect → ContentStyle → Picture
with_style p r s = record p { cells = styled_from p.width r s 0 p.cells }

-- How many of the `count` columns or rows from `first` on are among the first `all`.
abbrev pub count_in : ℕ → ℕ → ℕ → ℕ
count_in first count all = if nat_lt count (all - first) then count else all - first

-- The part of a rectangle that is inside the picture.
abbrev pub part : Picture → Rect → Rect
part p r = record r { width = count_in r.x r.width p.width; height = count_in r.y r.height p.height }

-- A character in each column of the first `n` rows of a rectangle, row by row, from left to right.
abbrev pub covering : Rect → ℕ → ℕ → List Stamp
covering r symbol n = flat_map (λ k. across r.x (r.y + k) r.width symbol) (range_with_len 0 n)

-- The picture after a character is set in each place of the rectangle that is inside the picture, row by row.
abbrev pub with_area : Picture → Rect → ℕ → ContentStyle → Picture
with_area p r symbol s = with_stamps p s (covering (part p r) symbol (part p r).height)
