-- The rows of a block: their cells, and the cursor in them.
use Rattle.std.specs.Prelude.{◌≡◌, ℕ, zero, suc, ◌<◌, IfSome, false, List, Option, None, length}
use Rattle.screen.specs.Cells.{ArePaired, Cell}

-- The cells of a row of this width. Each wide character has both of its cells in it.
abbrev pub IsCellRow : ℕ → List Cell → Type 0
IsCellRow width cells = (length cells ≡ width) × ArePaired false cells

-- The cursor is in one of so many rows, and its column, if it is known, is one of so many. If there are no rows, nothing
-- is known of it.
abbrev pub IsInRows : ℕ → ℕ → ℕ → Option ℕ → Type 0
IsInRows width zero row column = (row ≡ 0) × (column ≡ None)
IsInRows width (suc n) row column = (row < suc n) × IfSome column (λ c. c < width)
