-- Characters of a border.
use Rattle.std.specs.Prelude.{◌≡◌, ℕ}
use Rattle.screen.specs.declared.borders.Border.{Border}
use Rattle.screen.specs.Cells.{IsPrinted}
use Rattle.screen.specs.Texts.{columns}

-- A character that takes one column.
abbrev pub IsNarrow : ℕ → Type 0
IsNarrow c = IsPrinted c × (columns c ≡ 1)

-- Each of a border's six characters takes one column.
pub record AreNarrow (b : Border) : Type 0 where
  pub top_left : IsNarrow b.top_left
  pub top_right : IsNarrow b.top_right
  pub bottom_left : IsNarrow b.bottom_left
  pub bottom_right : IsNarrow b.bottom_right
  pub horizontal : IsNarrow b.horizontal
  pub vertical : IsNarrow b.vertical
