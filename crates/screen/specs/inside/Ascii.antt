-- Characters of ASCII that a text begins with.
use Rattle.std.specs.Prelude.{ℕ, ◌<◌, ◌≤◌, List, [], get_or, length}
use Rattle.crossterm_style.specs.declared.content_style.ContentStyle.{ContentStyle}
use Rattle.screen.specs.Cells.{Cell}

-- A printable character of ASCII.
abbrev pub IsPrintableAscii : ℕ → Type 0
IsPrintableAscii c = (32 ≤ c) × (c ≤ 126)

-- A text's first `n` bytes are such characters, none of which has a mark: a byte of ASCII is behind them, or the end.
pub record BeginsBare (text : List ℕ) (n : ℕ) : Type 0 where
  pub inside : n ≤ length text
  pub printable : (k : ℕ) → k < n → IsPrintableAscii (get_or text k 0)
  pub bare : 0 < n → n < length text → get_or text n 0 < 128

-- The cell of a character without marks.
abbrev pub bare_cell : ContentStyle → ℕ → Cell
bare_cell s c = record { symbol = c; marks = []; style = s }
