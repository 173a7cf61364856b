-- Cells of a buffer that are overwritten by others. What is left of half a character is a space here; on a terminal
-- (`Grids`) it isn't known.
use Rattle.std.specs.Prelude.{ℕ, ◌+◌, List, [], ◌∷◌, ◌++◌, drop, length, take, if◌then◌else◌}
use Rattle.crossterm_style.specs.declared.content_style.ContentStyle.{ContentStyle}
use Rattle.screen.specs.Cells.{Cell, is_covered, is_wide}
use Rattle.screen.specs.Grids.{takes_two}

-- A space in the style of a cell.
abbrev pub emptied : Cell → Cell
emptied c = record c { symbol = 32; marks = [] }

-- A cell whose right neighbour is overwritten: a wide one becomes a space, any other stays.
abbrev pub without_second : Cell → Cell
without_second c = if is_wide c then emptied c else c

-- A cell whose left neighbour is overwritten: a covered one becomes a space, any other stays.
abbrev pub without_first : Cell → Cell
without_first c = if is_covered c then emptied c else c

-- The cells before overwritten ones: if the last of them is wide, it becomes a space.
abbrev pub ended : List Cell → List Cell
ended [] = []
ended (c ∷ []) = without_second c ∷ []
ended (c ∷ d ∷ cells) = c ∷ ended (d ∷ cells)

-- The cells behind overwritten ones: if the first of them is covered, it becomes a space.
abbrev pub begun : List Cell → List Cell
begun [] = []
begun (c ∷ cells) = without_first c ∷ cells

-- The cells with others in place of those from `at` on. If a character loses one of its two cells, the other becomes
-- a space.
-- Without others, nothing changes.
abbrev pub overwritten : List Cell → ℕ → List Cell → List Cell
overwritten cells at [] = cells
overwritten cells at (c ∷ others) = ended (take at cells) ++ ((c ∷ others) ++ begun (drop (at + length (c ∷ others)) cells))

-- The second cell of a wide character: the character 0 in its style.
abbrev pub covered : ContentStyle → Cell
covered s = record { symbol = 0; marks = []; style = s }

-- The cells that a character with its marks takes in a style: one, or one and a covered one.
abbrev pub cells_with : ContentStyle → List ℕ → List Cell
cells_with s [] = []
cells_with s (c ∷ marks) =
    if takes_two c then (record { symbol = c; marks = marks; style = s } ∷ covered s ∷ []) else (record { symbol = c; marks = marks; style = s } ∷ [])
