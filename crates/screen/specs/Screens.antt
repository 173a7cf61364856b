-- A screen: its size, and what is known of the cells that the terminal shows.
use Rattle.std.specs.Prelude.{ℕ, List, Option}
use Rattle.crossterm_command.specs.declared.color_output.ColorOutput.{ColorOutput}
use Rattle.screen.specs.Cells.{Cell}

-- What was drawn: the cells, and whether colours were written.
pub record Drawn : Type 0 where
  pub colors : ColorOutput
  pub cells : List Cell

-- A screen. Nothing is known of the terminal's cells at the beginning, after a resize, and after an error.
pub record View : Type 0 where
  pub width : ℕ
  pub height : ℕ
  -- What was drawn last, or `None` if nothing is known of the terminal's cells.
  pub drawn : Option Drawn
  -- How many cells there is memory for.
  pub room : ℕ
