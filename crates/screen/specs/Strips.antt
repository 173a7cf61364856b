-- A strip: a frame in the row of a terminal in which the cursor is. Nothing else of the terminal changes.
use Rattle.std.specs.Prelude.{◌≡◌, ⊤, IfSome, ℕ, ◌+◌, ◌*◌, ◌-◌, ◌<◌, ◌≤◌, ◌==◌, Bool, true, false, List, [], ◌∷◌, ◌++◌, Option, Some, None, codes, flat_map, if◌then◌else◌, length, map, replicate}
use Rattle.std.specs.List.{slice_split}
use Rattle.std.specs.Option.{option_map}
use Rattle.crossterm_command.specs.Tokens.{Token, text_of}
use Rattle.crossterm_command.specs.Tokens.Token.{Csi}
use Rattle.crossterm_command.specs.Writing.{AppendsFront}
use Rattle.crossterm_command.specs.declared.color_output.ColorOutput.{ColorOutput}
use Rattle.crossterm_style.specs.Looks.{plain}
use Rattle.crossterm_style.specs.Styles.{no_style}
use Rattle.screen.specs.declared.faults.DrawFault.{DrawFault}
use Rattle.screen.specs.declared.faults.DrawFault.TheVariants.{Size, Cursor, Memory, Command}
use Rattle.screen.specs.Buffers.{Picture}
use Rattle.screen.specs.Cells.{Cell, blank, cell_look}
use Rattle.screen.specs.Drawings.{DifferAt, IsFrame, cells_before, knows_cells, printed_count}
use Rattle.screen.specs.Grids.{Grid, Square, begun, blank_square, ended, run}
use Rattle.screen.specs.Screens.{Drawn, View}
use Rattle.screen.specs.Updates.{ArePrinted, HasRunsFrom, HasSameStyle, IsBeside, Placed, changes, how_many, is_move, is_other, is_style, longest_style}

-- ---- a strip

-- A strip. Nothing is known of the row's cells at the beginning, after a resize, and after an error.
pub record StripView : Type 0 where
  pub width : ℕ
  -- What was drawn last, or `None` if nothing is known of the row's cells.
  pub drawn : Option Drawn
  -- The column in which the last frame left the cursor, or `None` if it hid it or nothing is known.
  pub left : Option ℕ
  -- How many cells there is memory for.
  pub room : ℕ

-- The screen of one row that has the strip's width, cells and memory.
abbrev pub as_screen : StripView → View
as_screen s = record { width = s.width; height = 1; drawn = s.drawn; room = s.room }

-- The place of a column in the only row, or none if no column is given.
abbrev pub in_first_row : Option ℕ → Option (ℕ × ℕ)
in_first_row cursor = option_map (λ column. (column, 0)) cursor

-- ---- the row

-- In the grid there is a row between the cells above it and those below it. It has more columns than the strip.
pub record LiesIn (width : ℕ) (above row below : List Square) (g : Grid) : Type 0 where
  pub cells : g.cells ≡ above ++ (row ++ below)
  -- The cells above are whole rows.
  pub rows : (n : ℕ) × (length above ≡ n * g.width)
  pub whole : length row ≡ g.width
  pub narrower : width < g.width
  -- The cursor is in the row.
  pub cursor : (column : ℕ) × (column < g.width) × (g.cursor ≡ Some (length above + column))
  -- No character of two cells goes over the row's ends.
  pub left : ended above ≡ above
  pub right : begun below ≡ below

-- A row that begins with the looks of these cells. The others are blank.
abbrev pub row_cells : ColorOutput → List Cell → ℕ → List Square
row_cells colors cells blanks = map (cell_look colors) cells ++ replicate blanks blank_square

-- The row shows what was drawn, and is blank behind it. If nothing was drawn, it may show anything.
abbrev pub ShowsLast : Option Drawn → ℕ → List Square → Type 0
ShowsLast None blanks row = ⊤
ShowsLast (Some drawn) blanks row = row ≡ row_cells drawn.colors drawn.cells blanks

-- The cursor is visible in this column of the row that begins at `start`, or hidden if none is given.
abbrev pub HasColumn : Option ℕ → ℕ → Grid → Type 0
HasColumn None start g = g.visible ≡ false
HasColumn (Some column) start g = (g.cursor ≡ Some (start + column)) × (g.visible ≡ true)

-- The row of `h` shows the picture. Above it and below it `h` has the same cells as `g`, and both have the same size.
pub record ShowsRow (width : ℕ) (colors : ColorOutput) (p : Picture) (cursor : Option ℕ) (above row below : List Square) (g h : Grid) : Type 0 where
  pub lies : LiesIn width above row below h
  pub columns : h.width ≡ g.width
  pub rows : h.height ≡ g.height
  pub cells : row ≡ row_cells colors p.cells (g.width - width)
  -- The cursor is as asked for, and the plain style is set.
  pub points : HasColumn cursor (length above) h
  pub style : h.style ≡ plain

-- From each grid with a row that shows what was drawn last, the tokens lead to one with a row that shows the picture.
abbrev pub TurnsRow : StripView → ColorOutput → Picture → Option ℕ → List Token → Type 0
TurnsRow s colors p cursor ts =
    (above row below : List Square) (g : Grid) → LiesIn s.width above row below g → ShowsLast s.drawn (g.width - s.width) row
    → (h : Grid) × (new : List Square) × (run ts g ≡ Some h) × ShowsRow s.width colors p cursor above new below g h

-- ---- tokens in a row

-- The second of two parameters, or no digits if there aren't two.
abbrev pub second_parameter : List (List ℕ) → List ℕ
second_parameter (row ∷ column ∷ []) = column
second_parameter parts = []

-- The tokens that replace one of a screen of one row: CHA for CUP, and CHA 1 with EL for ED.
abbrev pub in_row : Token → List Token
in_row (Csi text [] final) =
    if final == 0x48 then Csi (second_parameter (slice_split (λ b. b == 59) text)) [] 0x47 ∷ [] else (
    if final == 0x4A then Csi (codes "1") [] 0x47 ∷ Csi [] [] 0x4B ∷ [] else (
    Csi text [] final ∷ []))
in_row t = t ∷ []

-- ---- a frame

-- The tokens of one frame of the picture in a strip.
pub record IsRowFrame (s : StripView) (colors : ColorOutput) (p : Picture) (cursor : Option ℕ) (ts : List Token) : Type 0 where
  -- The tokens lead from each row that may be there to one that shows the picture, and nothing else changes.
  pub turns : TurnsRow s colors p cursor ts
  -- They are those of a frame of a screen of one row, each replaced by what does the same in a row.
  pub frame : (us : List Token) × (ts ≡ flat_map in_row us) × IsFrame (as_screen s) colors p (in_first_row cursor) us

-- ---- a frame right behind the last one

-- From each grid with a row that shows what was drawn last, the tokens lead to one with a row that shows the picture.
-- In that grid the cursor has to be visible in the column in which it was left, and the plain style has to be set.
abbrev pub TurnsNext : StripView → ColorOutput → Picture → ℕ → ℕ → List Token → Type 0
TurnsNext s colors p from column ts =
    (above row below : List Square) (g : Grid) → LiesIn s.width above row below g → ShowsLast s.drawn (g.width - s.width) row
    → HasColumn (Some from) (length above) g → g.style ≡ plain
    → (h : Grid) × (new : List Square) × (run ts g ≡ Some h) × ShowsRow s.width colors p (Some column) above new below g h

-- The stops of the cursor: at the characters that have to be printed, and at last in a column, in the plain style.
abbrev pub cursor_stops : List Placed → ℕ → List Placed
cursor_stops all column = all ++ record { at = column; cell = blank } ∷ []

-- The tokens print the cells of a row that have to be printed. They have no move, no style and no other control
-- function without need. In place of a move over a few cells these may be printed again.
pub record IsLean (width : ℕ) (before after : List Cell) (from column : ℕ) (ts : List Token) : Type 0 where
  -- The characters that have to be printed, with their places.
  pub all : List Placed
  pub printed : ArePrinted 0 before after all
  -- How many characters are printed that are shown already.
  pub again : ℕ
  -- Beside those, the tokens print the characters that have to be printed, and no others.
  pub count : (n : ℕ) × DifferAt before after n × (printed_count ts ≡ n + again)
  -- A move leads to a stop that isn't right behind the one before it. Before the first one the cursor is in the column
  -- in which it was left. In place of each move that is saved at most three characters are printed again.
  pub moves : (n : ℕ) × (saved : ℕ) × HasRunsFrom (λ x. x.at ≡ from) (IsBeside width) (cursor_stops all column) n
      × (again ≤ 3 * saved) × (how_many is_move ts + saved ≤ n)
  -- A style is set at a stop in another one than before it. Before the first one it is plain.
  pub styles : (n : ℕ) × HasRunsFrom (λ x. x.cell.style ≡ no_style) HasSameStyle (cursor_stops all column) n
      × (changes ts ≤ n) × (how_many is_style ts ≤ longest_style * n)
  pub others : how_many is_other ts ≡ 0

-- The tokens of a frame for who wrote nothing else since the last one, which left the cursor in this column.
pub record IsShortFrame (s : StripView) (colors : ColorOutput) (p : Picture) (from column : ℕ) (ts : List Token) : Type 0 where
  pub turns : TurnsNext s colors p from column ts
  -- They are those of a screen of one row, each replaced by what does the same in a row.
  pub frame : (us : List Token) × (ts ≡ flat_map in_row us) × IsLean s.width (cells_before (as_screen s) colors) p.cells from column us

-- The same, or a frame that assumes nothing of cursor and style, if the cells aren't known, or the cursor was or will be
-- hidden.
abbrev pub IsFrameBy : Bool → Option ℕ → StripView → ColorOutput → Picture → Option ℕ → List Token → Type 0
IsFrameBy true (Some from) s colors p (Some column) ts = IsShortFrame s colors p from column ts
IsFrameBy known left s colors p cursor ts = IsRowFrame s colors p cursor ts

-- The tokens of a frame right behind the last one.
abbrev pub IsNextFrame : StripView → ColorOutput → Picture → Option ℕ → List Token → Type 0
IsNextFrame s colors p cursor ts = IsFrameBy (knows_cells s.drawn colors) s.left s colors p cursor ts

-- ---- what is refused

-- The picture has the strip's width and one row.
abbrev pub IsOneRow : StripView → Picture → Type 0
IsOneRow s p = (p.width ≡ s.width) × (p.height ≡ 1)

-- The cursor's column is inside the strip, or there is none.
abbrev pub ColumnFits : StripView → Option ℕ → Type 0
ColumnFits s cursor = IfSome cursor (λ column. column < s.width)

-- The strip after these cells were drawn, with the cursor in this column or hidden.
abbrev pub with_row : StripView → ColorOutput → List Cell → Option ℕ → StripView
with_row s colors cells cursor = record s { drawn = Some (record { colors = colors; cells = cells }); left = cursor }

-- The strip if it isn't known what the row shows.
abbrev pub without_row : StripView → StripView
without_row s = record s { drawn = None; left = None }

-- The strip if neither the cursor's column nor the style that is set is known.
abbrev pub without_cursor : StripView → StripView
without_cursor s = record s { left = None }

-- Why a row wasn't drawn by a frame of these tokens. At a wrong size or cursor, nothing is written and the strip is
-- unchanged. After a fault of a command, the strip is forgotten, and a prefix of the frame's text was written. No
-- memory is taken.
abbrev pub RowNotDrawn : DrawFault → StripView → StripView → Picture → Option ℕ → (List Token → Type 0) → Option (List ℕ) → Option (List ℕ) → Type 0
RowNotDrawn Size s t p cursor Frame old new = (IsOneRow s p → ⊥) × (t ≡ s) × (new ≡ old)
RowNotDrawn Cursor s t p cursor Frame old new = IsOneRow s p × (ColumnFits s cursor → ⊥) × (t ≡ s) × (new ≡ old)
RowNotDrawn Memory s t p cursor Frame old new = ⊥
RowNotDrawn (Command fault) s t p cursor Frame old new =
    IsOneRow s p × ColumnFits s cursor × (t ≡ without_row s)
    × (ts : List Token) × Frame ts × AppendsFront old new (text_of ts)
