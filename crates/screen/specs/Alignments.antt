-- Texts that are aligned in a row of a rectangle.
use Rattle.std.specs.Prelude.{ℕ, ◌+◌, ◌-◌, ◌/◌, ◌&&◌, nat_lt, List, Option, Some, if◌then◌else◌}
use Rattle.crossterm_style.specs.declared.content_style.ContentStyle.{ContentStyle}
use Rattle.screen.specs.declared.alignment.Alignment.{Alignment}
use Rattle.screen.specs.declared.alignment.Alignment.TheVariants.{Left, Center, Right}
use Rattle.screen.specs.declared.faults.CellFault.{CellFault}
use Rattle.screen.specs.declared.faults.CellFault.TheVariants.{Outside}
use Rattle.screen.specs.declared.rects.Rect.{Rect}
use Rattle.screen.specs.Buffers.{Picture, with_text}
use Rattle.screen.specs.Texts.{text_columns, within}

-- The number of columns that a rectangle and the picture have in common.
abbrev pub common_columns : Picture → Rect → ℕ
common_columns p r = if nat_lt r.width (p.width - r.x) then r.width else p.width - r.x

-- The fault `Outside` if the rectangle or the picture hasn't this row of the rectangle, otherwise the other fault, if
-- any.
abbrev pub refusal_in : Picture → Rect → ℕ → Option CellFault → Option CellFault
refusal_in p r row other = if nat_lt row r.height && nat_lt (r.y + row) p.height then other else Some Outside

-- The longest prefix of a text that fits into the columns that the rectangle and the picture have in common.
abbrev pub clipped_in : Picture → Rect → List (List ℕ) → List (List ℕ)
clipped_in p r text = within (common_columns p r) text

-- How many of the columns `room` come before a text of `used` columns. If `Center`, it is half of the free ones,
-- rounded down.
abbrev pub indent : Alignment → ℕ → ℕ → ℕ
indent Left room used = 0
indent Center room used = (room - used) / 2
indent Right room used = room - used

-- The column of the picture in which a clipped text begins if it is aligned in the columns that the picture has of
-- the rectangle.
abbrev pub column_in : Picture → Rect → Alignment → List (List ℕ) → ℕ
column_in p r alignment text = r.x + indent alignment (common_columns p r) (text_columns (clipped_in p r text))

-- The picture with a text in a row of a rectangle, clipped to the rectangle and aligned in it.
abbrev pub with_text_in : Picture → Rect → ℕ → Alignment → List (List ℕ) → ContentStyle → Picture
with_text_in p r row alignment text s = with_text p (column_in p r alignment text) (r.y + row) (clipped_in p r text) s
