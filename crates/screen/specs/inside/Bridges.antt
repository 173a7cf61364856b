-- Bridges: cells that are printed again in place of a move over them.
use Rattle.std.specs.Prelude.{◌≡◌, ◌↔◌, ◌⊎◌, ℕ, ◌+◌, ◌-◌, ◌<◌, ◌≤◌, Bool, true, List, [], Option, Some, drop, take}
use Rattle.std.specs.List.{AllByRecursion}
use Rattle.crossterm_style.specs.declared.content_style.ContentStyle.{ContentStyle}
use Rattle.screen.specs.Cells.{Cell}

-- The cell has a printable character of ASCII without marks, in this style.
abbrev pub IsBare : ContentStyle → Cell → Type 0
IsBare s c = (32 ≤ c.symbol) × (c.symbol ≤ 126) × (c.marks ≡ []) × (c.style ≡ s)

-- The place is to the right of another one in the same row, by three columns at most. `column` is its own column.
pub record IsNear (from at column : ℕ) : Type 0 where
  pub right : from < at
  pub short : at ≤ from + 3
  pub row : at ≤ from + column

-- The cells are those from the cursor up to a place that is near. All are bare in the style that is set.
pub record IsBridge (after : List Cell) (cursor : Option ℕ) (style : Option ContentStyle) (at column : ℕ) (cells : List Cell) : Type 0 where
  pub from : ℕ
  pub known : cursor ≡ Some from
  pub near : IsNear from at column
  pub set : ContentStyle
  pub is_set : style ≡ Some set
  pub between : cells ≡ take (at - from) (drop from after)
  pub bare : AllByRecursion (IsBare set) cells

-- The cells that are printed again bring the cursor to a place, or there are none. `there` is whether it is there then.
abbrev pub Approaches : List Cell → Option ℕ → Option ContentStyle → ℕ → ℕ → List Cell → Bool → Type 0
Approaches after cursor style at column cells there =
    ((cells ≡ []) × ((there ≡ true) ↔ (cursor ≡ Some at))) ⊎ ((there ≡ true) × IsBridge after cursor style at column cells)
