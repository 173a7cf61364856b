-- A block: some rows of a terminal, from the one on in which the cursor was at first. Rows above it may move up.
use Rattle.std.specs.Prelude.{◌≡◌, ℕ, zero, suc, ◌+◌, ◌-◌, ◌*◌, ◌<◌, ◌≤◌, ◌==◌, nat_lt, IfSome, List, [], ◌∷◌, ◌++◌, Option, Some, None, true, if◌then◌else◌, drop, flat_map, get_or, length, map, replicate, take}
use Rattle.std.specs.List.{AllByRecursion}
use Rattle.crossterm_command.specs.Controls.{set}
use Rattle.crossterm_command.specs.Tokens.{Token, text_of}
use Rattle.crossterm_command.specs.Tokens.Token.{Char}
use Rattle.crossterm_command.specs.Writing.{AppendsFront}
use Rattle.crossterm_command.specs.declared.color_output.ColorOutput.{ColorOutput}
use Rattle.crossterm_style.specs.declared.types.attribute.Attribute.TheVariants.{Reset}
use Rattle.crossterm_style.specs.Looks.{plain}
use Rattle.crossterm_style.specs.Styles.{attribute_functions}
use Rattle.crossterm.specs.Sequences.{by, clear}
use Rattle.crossterm.specs.declared.terminal.ClearType.TheVariants.{UntilNewLine}
use Rattle.screen.specs.declared.faults.DrawFault.{DrawFault}
use Rattle.screen.specs.declared.faults.DrawFault.TheVariants.{Size, Cursor, Memory, Command}
use Rattle.screen.specs.Buffers.{Picture}
use Rattle.screen.specs.Cells.{Cell, blank}
use Rattle.screen.specs.Grids.{Grid, Square, begun, ended, run}
use Rattle.screen.specs.Strips.{IsShortFrame, StripView, row_cells}

-- ---- a block

-- A block of rows.
pub record BlockView : Type 0 where
  pub width : ℕ
  -- Whether colours are written.
  pub colors : ColorOutput
  -- The cells of each row, as the last frame left them. There are none if nothing is known of the terminal. Then the
  -- next frame begins in the cursor's row.
  pub rows : List (List Cell)
  -- In which of the rows the cursor is, from 0.
  pub row : ℕ
  -- The column in which the last frame left the cursor, or `None` if that isn't known.
  pub column : Option ℕ
  -- How many cells there is memory for.
  pub room : ℕ

-- The cells of so many rows, a row a list.
abbrev pub cut_rows : ℕ → ℕ → List Cell → List (List Cell)
cut_rows width zero cells = []
cut_rows width (suc n) cells = take width cells ∷ cut_rows width n (drop width cells)

-- The rows of a picture.
abbrev pub picture_rows : Picture → List (List Cell)
picture_rows p = cut_rows p.width p.height p.cells

-- So many blank rows.
abbrev pub blank_rows : ℕ → ℕ → List (List Cell)
blank_rows width n = replicate n (replicate width blank)

-- The rows that are known once a frame has begun: those of the last frame, or a blank one.
abbrev pub known_rows : BlockView → List (List Cell)
known_rows s = if length s.rows == 0 then blank_rows s.width 1 else s.rows

-- How many rows a frame of a picture adds below them.
abbrev pub added : BlockView → Picture → ℕ
added s p = p.height - length (known_rows s)

-- ---- rows of a grid

-- A row of a grid: so many cells, and no character of two cells goes over its ends.
abbrev pub IsRow : ℕ → List Square → Type 0
IsRow width row = (length row ≡ width) × (begun row ≡ row) × (ended row ≡ row)

-- The grid has whole rows: those above the block, its own, and those below it. It has more columns than the block.
pub record HasBlock (width : ℕ) (above block below : List (List Square)) (g : Grid) : Type 0 where
  pub cells : g.cells ≡ flat_map (λ row. row) (above ++ (block ++ below))
  pub height : length above + (length block + length below) ≡ g.height
  pub rows : AllByRecursion (IsRow g.width) above × AllByRecursion (IsRow g.width) block × AllByRecursion (IsRow g.width) below
  pub narrower : width < g.width

-- The cursor is in this row and column of a block that has so many rows above it.
abbrev pub HasCursorIn : ℕ → ℕ → ℕ → Grid → Type 0
HasCursorIn above row column g = (column < g.width) × (g.cursor ≡ Some ((above + row) * g.width + column))

-- The rows of a grid that begin with the looks of these cells, and are blank behind them.
abbrev pub row_squares : ColorOutput → List (List Cell) → ℕ → List (List Square)
row_squares colors rows blanks = map (λ cells. row_cells colors cells blanks) rows

-- The block shows what was drawn. If nothing was drawn, it is one row and may show anything.
abbrev pub ShowsRows : ColorOutput → List (List Cell) → ℕ → List (List Square) → Type 0
ShowsRows colors [] blanks block = length block ≡ 1
ShowsRows colors (row ∷ rows) blanks block = block ≡ row_squares colors (row ∷ rows) blanks

-- The cursor is in the block's row. If its column is known, it is visible there, and the plain style is set.
abbrev pub IsAsLeft : BlockView → ℕ → Grid → Type 0
IsAsLeft s above g = (column : ℕ) × HasCursorIn above s.row column g × IfSome s.column (λ left. (column ≡ left) × (g.visible ≡ true) × (g.style ≡ plain))

-- The block of `h` shows the picture. `g` was the grid before it, with these rows above, in and below the
-- block.
pub record ShowsBlock (s : BlockView) (p : Picture) (column row : ℕ) (above block below : List (List Square)) (g h : Grid) : Type 0 where
  pub width : h.width ≡ g.width
  pub height : h.height ≡ g.height
  -- The block has taken rows from below. The rows above are the same, but the first ones have gone if there were too few
  -- below.
  pub lies : HasBlock s.width (drop (added s p - length below) above) (row_squares s.colors (picture_rows p) (g.width - s.width)) (drop (added s p) below) h
  -- The cursor is visible in its place, and the plain style is set.
  pub place : HasCursorIn (length above - (added s p - length below)) row column h
  pub visible : h.visible ≡ true
  pub style : h.style ≡ plain

-- From each grid with a block that shows what was drawn last, the tokens lead to one with a block that shows the
-- picture. The grid has to have as many rows as the picture.
abbrev pub TurnsBlock : BlockView → Picture → ℕ → ℕ → List Token → Type 0
TurnsBlock s p column row ts =
    (above block below : List (List Square)) (g : Grid) → HasBlock s.width above block below g → ShowsRows s.colors s.rows (g.width - s.width) block
    → IsAsLeft s (length above) g → p.height ≤ g.height
    → (h : Grid) × (run ts g ≡ Some h) × ShowsBlock s p column row above block below g h

-- ---- the tokens of a frame

-- From a row to another one: CUU (ECMA-48, 8.3.22) or CUD (ECMA-48, 8.3.19).
abbrev pub to_row : ℕ → ℕ → List Token
to_row from to = if nat_lt to from then by (from - to) "A" else (if nat_lt from to then by (to - from) "B" else [])

-- So many more rows: for each CR and LF go to the row below, and EL makes it blank.
abbrev pub more_rows : ℕ → List Token
more_rows zero = []
more_rows (suc n) = Char 0x0D ∷ Char 0x0A ∷ (clear UntilNewLine ++ more_rows n)

-- What adds so many rows below those that are known, with the cursor in one of them.
abbrev pub growth : ℕ → ℕ → ℕ → List Token
growth known row zero = []
growth known row (suc n) = to_row row (known - 1) ++ more_rows (suc n)

-- The cursor's row behind that.
abbrev pub grown_row : ℕ → ℕ → ℕ → ℕ
grown_row known row zero = row
grown_row known row (suc n) = known + n

-- The cursor's column behind that.
abbrev pub grown_column : ℕ → ℕ → ℕ
grown_column column zero = column
grown_column column (suc n) = 0

-- The beginning of a frame if the cursor's column isn't known: the plain style, a visible cursor, and the row's first
-- column. If there are no rows yet, the cursor's row is erased from there on.
abbrev pub beginning : ℕ → Option ℕ → List Token
beginning known None = attribute_functions Reset ++ (set "25" ++ (by 1 "G" ++ (if known == 0 then clear UntilNewLine else [])))
beginning known (Some column) = []

-- The cursor's column once a frame has begun.
abbrev pub begun_column : Option ℕ → ℕ
begun_column None = 0
begun_column (Some column) = column

-- To another column: CHA (ECMA-48, 8.3.9).
abbrev pub to_column : ℕ → ℕ → List Token
to_column from to = if from == to then [] else by (to + 1) "G"

-- A strip of which a row's cells are known.
abbrev pub row_strip : ℕ → ColorOutput → List Cell → StripView
row_strip width colors cells = record { width = width; drawn = Some (record { colors = colors; cells = cells }); left = None; room = 0 }

-- The picture of a row.
abbrev pub row_picture : ℕ → List Cell → Picture
row_picture width cells = record { width = width; height = 1; cells = cells; room = 0 }

-- The tokens visit each row in which cells change, from a row and a column on, and then bring the cursor to its place.
-- In a row that is visited they are a frame of the strip there.
pub data Visits (width : ℕ) (colors : ColorOutput) (after : List (List Cell)) (end_column end_row : ℕ) : List (List Cell) → ℕ → ℕ → List Token → Type 0 where
  changed : (rows : List (List Cell)) (row column : ℕ) (ts : List Token) (front back : List (List Cell)) (old new : List Cell) (to : ℕ) (frame more : List Token)
      → rows ≡ front ++ old ∷ back → get_or after (length front) [] ≡ new → (old ≡ new → ⊥) → IsShortFrame (row_strip width colors old) colors (row_picture width new) column to frame
      → Visits width colors after end_column end_row (front ++ new ∷ back) (length front) to more
      → ts ≡ to_row row (length front) ++ (frame ++ more) → Visits width colors after end_column end_row rows row column ts
  at_last : (rows : List (List Cell)) (row column : ℕ) (ts : List Token)
      → rows ≡ after → ts ≡ to_row row end_row ++ to_column column end_column → Visits width colors after end_column end_row rows row column ts

-- The tokens of one frame of the picture.
pub record IsBlockFrame (s : BlockView) (p : Picture) (column row : ℕ) (ts : List Token) : Type 0 where
  -- The tokens lead from each block that may be there to one that shows the picture.
  pub turns : TurnsBlock s p column row ts
  -- They are what the frame begins with, what adds rows, and the visits of rows.
  pub visiting : List Token
  pub parts : ts ≡ beginning (length s.rows) s.column ++ (growth (length (known_rows s)) s.row (added s p) ++ visiting)
  pub visits : Visits s.width s.colors (picture_rows p) column row (known_rows s ++ blank_rows s.width (added s p))
      (grown_row (length (known_rows s)) s.row (added s p)) (grown_column (begun_column s.column) (added s p)) visiting

-- ---- what is refused

-- The picture has the block's width, and at least as many rows.
abbrev pub FitsBlock : BlockView → Picture → Type 0
FitsBlock s p = (p.width ≡ s.width) × (length s.rows ≤ p.height)

-- The place is inside the picture.
abbrev pub PlaceFits : Picture → ℕ → ℕ → Type 0
PlaceFits p column row = (column < p.width) × (row < p.height)

-- The block after a frame of a picture, with the cursor at this place.
abbrev pub with_rows : BlockView → Picture → ℕ → ℕ → BlockView
with_rows s p column row = record s { rows = picture_rows p; row = row; column = Some column }

-- The block if nothing is known of the terminal.
abbrev pub without_rows : BlockView → BlockView
without_rows s = record s { rows = []; row = 0; column = None }

-- The block if neither the cursor's column nor the style that is set is known.
abbrev pub without_place : BlockView → BlockView
without_place s = record s { column = None }

-- Why a frame wasn't drawn. At a wrong size or place, and if memory is refused, nothing is written, and the block is
-- unchanged. After a fault of a command the block is forgotten, and a prefix of the frame's text was written.
abbrev pub BlockNotDrawn : DrawFault → BlockView → BlockView → Picture → ℕ → ℕ → Option (List ℕ) → Option (List ℕ) → Type 0
BlockNotDrawn Size s t p column row old new = (FitsBlock s p → ⊥) × (t ≡ s) × (new ≡ old)
BlockNotDrawn Cursor s t p column row old new = FitsBlock s p × (PlaceFits p column row → ⊥) × (t ≡ s) × (new ≡ old)
BlockNotDrawn Memory s t p column row old new = FitsBlock s p × PlaceFits p column row × (s.room < p.width * p.height) × (t ≡ record s { room = t.room }) × (new ≡ old)
BlockNotDrawn (Command fault) s t p column row old new =
    FitsBlock s p × PlaceFits p column row × (t ≡ record (without_rows s) { room = t.room })
    × (ts : List Token) × IsBlockFrame s p column row ts × AppendsFront old new (text_of ts)
