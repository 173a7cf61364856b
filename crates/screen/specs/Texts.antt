-- Texts: the cells of their characters, and what fits into some columns. A text is a list of parts (`Parts`): each is a
-- character with its marks.
use Rattle.std.specs.Prelude.{ℕ, ◌+◌, ◌-◌, nat_le, not, List, [], ◌∷◌, Option, Some, None, if◌then◌else◌, flat_map, length, map}
use Rattle.std.specs.List.{filter}
use Rattle.crossterm_style.specs.declared.content_style.ContentStyle.{ContentStyle}
use Rattle.screen.specs.declared.faults.CellFault.{CellFault}
use Rattle.screen.specs.declared.faults.CellFault.TheVariants.{ManyMarks, Wide}
use Rattle.screen.specs.Cells.{Cell, symbol_fault}
use Rattle.screen.specs.Grids.{takes_two}
use Rattle.screen.specs.Marks.{most_marks, takes_none}
use Rattle.screen.specs.Overwriting.{cells_with}

-- The cells of a text in a style, one part after another.
abbrev pub cells_of : ContentStyle → List (List ℕ) → List Cell
cells_of s text = flat_map (cells_with s) text

-- How many columns a character takes if cells can hold it: 2 if it is wide, otherwise 1.
abbrev pub columns : ℕ → ℕ
columns c = if takes_two c then 2 else 1

-- How many columns a character with its marks takes: those of the character.
abbrev pub part_columns : List ℕ → ℕ
part_columns [] = 0
part_columns (c ∷ marks) = columns c

-- How many columns the parts of a text take together.
abbrev pub text_columns : List (List ℕ) → ℕ
text_columns [] = 0
text_columns (p ∷ text) = part_columns p + text_columns text

-- The longest prefix of a text that fits into `room` columns. No character is parted from its marks.
abbrev pub within : ℕ → List (List ℕ) → List (List ℕ)
within room [] = []
within room (p ∷ text) = if nat_le (part_columns p) room then p ∷ within (room - part_columns p) text else []

-- Why cells can't hold a character with its marks, or `None` if they can: its own fault, else `ManyMarks` for more than
-- three.
abbrev pub part_fault : List ℕ → Option CellFault
part_fault [] = None
part_fault (c ∷ marks) =
    elim (symbol_fault c) [ Some fault ↦ Some fault | None ↦ if nat_le (length marks) most_marks then None else Some ManyMarks ]

-- The fault of the first part that cells can't hold, or `None` if they can hold each.
abbrev pub text_fault : List (List ℕ) → Option CellFault
text_fault [] = None
text_fault (p ∷ text) = elim (part_fault p) [ Some fault ↦ Some fault | None ↦ text_fault text ]

-- The part, or the replacement if cells can't hold the part.
abbrev pub fitting : ℕ → List ℕ → List ℕ
fitting replacement p = elim (part_fault p) [ Some fault ↦ replacement ∷ [] | None ↦ p ]

-- A text with the replacement in place of each part that cells can't hold.
abbrev pub replaced : ℕ → List (List ℕ) → List (List ℕ)
replaced replacement text = map (fitting replacement) text

-- The characters of a text that take a column, each in a part of its own.
abbrev pub without_marks : List ℕ → List (List ℕ)
without_marks text = map (λ c. c ∷ []) (filter (λ c. not (takes_none c)) text)

-- Why a character can't replace others, or `None` if it takes exactly one column. One of two columns is `Wide`.
abbrev pub replacement_fault : ℕ → Option CellFault
replacement_fault c = elim (symbol_fault c) [ Some fault ↦ Some fault | None ↦ if takes_two c then Some Wide else None ]
