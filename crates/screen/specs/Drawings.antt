-- What a frame does to a terminal.
use Rattle.std.specs.Prelude.{◌≡◌, ◌⊎◌, ⊤, IfSome, ℕ, ◌+◌, ◌*◌, ◌<◌, Bool, true, false, List, [], ◌∷◌, Option, Some, None, if◌then◌else◌, length, map, replicate}
use Rattle.std.specs.declared.io.Error.{Error}
use Rattle.std.specs.declared.io.ErrorKind.TheVariants.{InvalidInput, OutOfMemory}
use Rattle.std.specs.IoError.{error_kind}
use Rattle.crossterm_command.specs.Faults as command
use Rattle.crossterm_command.specs.Tokens.{Token, text_of}
use Rattle.crossterm_command.specs.Tokens.Token.{Char}
use Rattle.crossterm_command.specs.Writing.{AppendsFront}
use Rattle.crossterm_command.specs.declared.color_output.ColorOutput.{ColorOutput}
use Rattle.crossterm_command.specs.declared.color_output.ColorOutput.TheVariants.{Enabled, Disabled}
use Rattle.crossterm_style.specs.Looks.{plain}
use Rattle.screen.specs.declared.faults.DrawFault.{DrawFault}
use Rattle.screen.specs.declared.faults.DrawFault.TheVariants.{Size, Cursor, Memory, Command}
use Rattle.screen.specs.Buffers.{Picture}
use Rattle.screen.specs.Cells.{Cell, blank, cell_look}
use Rattle.screen.specs.Grids.{Grid, run}
use Rattle.screen.specs.Screens.{Drawn, View}
use Rattle.screen.specs.Updates.{HasToBePrinted, IsOneUpdate, IsSparing}

-- ---- what is shown

-- The grid has this width and height, and a cell for each place.
abbrev pub HasSize : ℕ → ℕ → Grid → Type 0
HasSize width height g = (g.width ≡ width) × (g.height ≡ height) × (length g.cells ≡ width * height)

-- The grid shows exactly these cells, each with its character and its look.
abbrev pub ShowsCells : ColorOutput → List Cell → Grid → Type 0
ShowsCells colors cells g = g.cells ≡ map (cell_look colors) cells

-- The grid shows the cells that were drawn. If none were drawn, it may show any.
abbrev pub ShowsDrawn : Option Drawn → Grid → Type 0
ShowsDrawn None g = ⊤
ShowsDrawn (Some drawn) g = ShowsCells drawn.colors drawn.cells g

-- A grid of the screen's size that shows what was drawn last. Its cursor and its style may be any.
abbrev pub MayShow : View → Grid → Type 0
MayShow s g = HasSize s.width s.height g × ShowsDrawn s.drawn g

-- The cursor is visible at this column and row, or hidden if none are given.
abbrev pub HasCursor : Option (ℕ × ℕ) → Grid → Type 0
HasCursor None g = g.visible ≡ false
HasCursor (Some place) g = (g.cursor ≡ Some (place.1 * g.width + place.0)) × (g.visible ≡ true)

-- The grid shows the picture with the cursor as asked for, and the style that is set is plain.
abbrev pub Shows : ColorOutput → Picture → Option (ℕ × ℕ) → Grid → Type 0
Shows colors p cursor g = HasSize p.width p.height g × ShowsCells colors p.cells g × HasCursor cursor g × (g.style ≡ plain)

-- From each grid that the terminal may show, the tokens lead to one that shows the picture.
abbrev pub TurnsInto : View → ColorOutput → Picture → Option (ℕ × ℕ) → List Token → Type 0
TurnsInto s colors p cursor ts = (g : Grid) → MayShow s g → (h : Grid) × (run ts g ≡ Some h) × Shows colors p cursor h

-- ---- how much is printed

-- How many of the tokens are characters.
abbrev pub printed_count : List Token → ℕ
printed_count [] = 0
printed_count (Char c ∷ ts) = printed_count ts + 1
printed_count (t ∷ ts) = printed_count ts

-- How many characters a cell that isn't covered is printed by: its own, and each of its marks.
abbrev pub characters_of : Cell → ℕ
characters_of c = length c.marks + 1

-- The lists have the same length, and the cells that have to be printed have exactly `n` characters.
abbrev pub DifferAt : List Cell → List Cell → ℕ → Type 0
DifferAt [] [] n = n ≡ 0
DifferAt (a ∷ before) (b ∷ after) n =
    ((HasToBePrinted a b → ⊥) × DifferAt before after n) ⊎ (HasToBePrinted a b × (m : ℕ) × (n ≡ m + characters_of b) × DifferAt before after m)
DifferAt before after n = ⊥

-- Whether both write colours, or neither does.
abbrev pub same_output : ColorOutput → ColorOutput → Bool
same_output Enabled Enabled = true
same_output Disabled Disabled = true
same_output a b = false

-- A blank cell for each place of the screen.
abbrev blanks : View → List Cell
blanks s = replicate (s.width * s.height) blank

-- The cells that were drawn with the same choice of colours as now, or blank ones if there are none.
abbrev pub cells_drawn : View → Option Drawn → ColorOutput → List Cell
cells_drawn s None colors = blanks s
cells_drawn s (Some drawn) colors = if same_output drawn.colors colors then drawn.cells else blanks s

-- Whether cells were drawn with the same choice of colours as now.
abbrev pub knows_cells : Option Drawn → ColorOutput → Bool
knows_cells None colors = false
knows_cells (Some drawn) colors = same_output drawn.colors colors

-- The cells that a frame begins with: those drawn last with the same choice of colours. Otherwise all is erased, and
-- they are blank.
abbrev pub cells_before : View → ColorOutput → List Cell
cells_before s colors = cells_drawn s s.drawn colors

-- ---- a frame

-- The tokens of one frame of the picture.
pub record IsFrame (s : View) (colors : ColorOutput) (p : Picture) (cursor : Option (ℕ × ℕ)) (ts : List Token) : Type 0 where
  -- The tokens lead from each grid that the terminal may show to one that shows the picture.
  pub turns : TurnsInto s colors p cursor ts
  -- How many characters are printed that are shown already.
  pub again : ℕ
  -- Beside those, the tokens print the characters of the cells that have to be printed, and no others.
  pub count : (n : ℕ) × DifferAt (cells_before s colors) p.cells n × (printed_count ts ≡ n + again)
  -- The tokens are one synchronized update.
  pub update : IsOneUpdate ts
  -- The tokens have no more moves, styles and other control functions than a frame needs.
  pub sparing : IsSparing (knows_cells s.drawn colors) p.width (cells_before s colors) p.cells cursor again ts

-- ---- what is refused

-- The picture has the screen's width and height.
abbrev pub IsSameSize : View → Picture → Type 0
IsSameSize s p = (p.width ≡ s.width) × (p.height ≡ s.height)

-- The cursor's place is inside the screen, or there is none.
abbrev pub CursorFits : View → Option (ℕ × ℕ) → Type 0
CursorFits s cursor = IfSome cursor (λ place. (place.0 < s.width) × (place.1 < s.height))

-- The screen after these cells were drawn.
abbrev pub with_drawn : View → ColorOutput → List Cell → View
with_drawn s colors cells = record s { drawn = Some (record { colors = colors; cells = cells }) }

-- The screen if it isn't known what the terminal shows.
abbrev pub forgotten : View → View
forgotten s = record s { drawn = None }

-- Why a frame wasn't drawn. At a wrong size or cursor, nothing is written and the screen is unchanged.
-- After a fault of a command, the screen is forgotten, and a prefix of the frame's text was written. No memory is taken.
abbrev pub NotDrawn : DrawFault → View → View → ColorOutput → Picture → Option (ℕ × ℕ) → Option (List ℕ) → Option (List ℕ) → Type 0
NotDrawn Size s t colors p cursor old new = (IsSameSize s p → ⊥) × (t ≡ s) × (new ≡ old)
NotDrawn Cursor s t colors p cursor old new = IsSameSize s p × (CursorFits s cursor → ⊥) × (t ≡ s) × (new ≡ old)
NotDrawn Memory s t colors p cursor old new = ⊥
NotDrawn (Command fault) s t colors p cursor old new =
    IsSameSize s p × CursorFits s cursor × (t ≡ forgotten s)
    × (ts : List Token) × IsFrame s colors p cursor ts × AppendsFront old new (text_of ts)

-- The error that a fault becomes: the one of the command's fault, or one of the kind `OutOfMemory` if memory was refused.
-- Of any other fault the kind is `InvalidInput`.
abbrev pub BecomesError : DrawFault → Error → Type 0
BecomesError Size answer = error_kind answer ≡ InvalidInput
BecomesError Cursor answer = error_kind answer ≡ InvalidInput
BecomesError Memory answer = error_kind answer ≡ OutOfMemory
BecomesError (Command fault) answer = command.Answers fault answer
