-- The way of a frame over the cells.
use Rattle.std.specs.List.{AllByRecursion}
use Rattle.std.specs.Prelude.{⊤, ◌≡◌, ◌↔◌, ◌≤◌, ℕ, ◌+◌, ◌*◌, Bool, true, false, List, [], ◌∷◌, ◌++◌, Option, Some, None, drop, length, map, replicate, take, if◌then◌else◌}
use Rattle.crossterm_command.specs.Tokens.{text_of}
use Rattle.crossterm_command.specs.Writing.{AppendsFront}
use Rattle.crossterm_command.specs.declared.color_output.ColorOutput.{ColorOutput}
use Rattle.crossterm_style.specs.declared.content_style.ContentStyle.{ContentStyle}
use Rattle.crossterm_style.specs.Looks.{plain}
use Rattle.crossterm_style.specs.Styles.{no_style}
use Rattle.screen.specs.declared.faults.DrawFault.{DrawFault}
use Rattle.screen.specs.declared.faults.DrawFault.TheVariants.{Command}
use Rattle.screen.specs.declared.starts.Start.{Start}
use Rattle.screen.specs.declared.starts.Start.TheVariants as start
use Rattle.screen.specs.declared.strokes.Stroke.{Stroke}
use Rattle.screen.specs.declared.strokes.Stroke.TheVariants.{Begin}
use Rattle.screen.specs.Cells.{ArePaired, Cell, blank, is_covered, look, cell_look}
use Rattle.screen.specs.Buffers.{Picture}
use Rattle.screen.specs.Drawings.{CursorFits, DifferAt, HasSize, IsFrame, IsSameSize, NotDrawn, Shows, ShowsCells, cells_before, forgotten, knows_cells, printed_count, same_output}
use Rattle.screen.specs.Grids.{Grid, Square, begun, run}
use Rattle.screen.specs.Screens.{View}
use Rattle.screen.specs.Grids.Square.{Second}
use Rattle.screen.specs.Strips.{IsLean}
use Rattle.screen.specs.Updates.{ArePrinted, HasRunsFrom, HasSameStyle, IsBeside, IsOneUpdate, IsSparing, Placed, how_many}
use Rattle.screen.specs.inside.Strokes.{AreFitting, IsInner, is_move_stroke, is_other_stroke, is_style_stroke, tokens_of, written_of}

-- Whether cells were drawn, and colours are written as they were.
abbrev pub is_known : Option ColorOutput → ColorOutput → Bool
is_known None colors = false
is_known (Some drawn) colors = same_output drawn colors

-- If cells were drawn, they are paired.
abbrev pub IsPairedIf : Option ColorOutput → List Cell → Type 0
IsPairedIf None cells = ⊤
IsPairedIf (Some colors) cells = ArePaired false cells

-- What is known when a frame of a screen begins: its cells, or nothing.
abbrev pub start_by : Bool → Start
start_by true = start.Cells
start_by false = start.Nothing

-- The cursor's place, if it is known.
abbrev pub known_cursor : Start → Option ℕ
known_cursor (start.All at) = Some at
known_cursor s = None

-- The style that is set, if it is known.
abbrev pub known_style : Start → Option ContentStyle
known_style (start.All at) = Some no_style
known_style s = None

-- The grid has the size, and shows what is known.
abbrev pub StartsFrom : Start → ColorOutput → ℕ → ℕ → List Cell → Grid → Type 0
StartsFrom start.Nothing colors width height cells g = HasSize width height g
StartsFrom start.Cells colors width height cells g = HasSize width height g × ShowsCells colors cells g
StartsFrom (start.All at) colors width height cells g =
    HasSize width height g × ShowsCells colors cells g × (g.cursor ≡ Some at) × (g.visible ≡ true) × (g.style ≡ plain)

-- The old cells have the size, and are blank if they aren't known.
abbrev pub IsSized : Start → ℕ → ℕ → List Cell → Type 0
IsSized start.Nothing width height cells = cells ≡ replicate (width * height) blank
IsSized s width height cells = length cells ≡ width * height

-- Whether the cursor is shown is as it was, if that is known.
abbrev pub IsStillShown : Start → Bool → Type 0
IsStillShown (start.All at) visible = visible ≡ true
IsStillShown s visible = ⊤

-- Whether the first of the cells is covered.
abbrev pub begins_covered : List Cell → Bool
begins_covered [] = false
begins_covered (c ∷ cells) = is_covered c

-- The grid's cells from a place on, before the place is visited: the old ones. An old second cell at their beginning
-- is unknown.
-- If the new cell is covered, the character before it has already put its second cell there.
abbrev pub rest_from : List Cell → List Square → List Square
rest_from after old = if begins_covered after then Second ∷ begun (drop 1 old) else begun old

-- The cells before the place `k` are the new ones, and what is known of the cursor and of the style is true.
pub record Scanned (start : Start) (colors : ColorOutput) (width height : ℕ) (before after : List Cell) (k : ℕ) (cursor : Option ℕ) (style : Option ContentStyle) (h : Grid) : Type 0 where
  pub size : HasSize width height h
  pub seen : IsStillShown start h.visible
  pub cells : h.cells ≡ take k (map (cell_look colors) after) ++ rest_from (drop k after) (map (cell_look colors) (drop k before))
  pub place : (n : ℕ) → cursor ≡ Some n → h.cursor ≡ Some n
  pub set : (s : ContentStyle) → style ≡ Some s → h.style ≡ look colors s

-- From each grid that a frame may begin with, the strokes lead to one with the property `End`.
abbrev pub LeadsTo : Start → ℕ → ℕ → List Cell → List Stroke → (ColorOutput → Grid → Type 0) → Type 0
LeadsTo start width height before strokes End =
    (colors : ColorOutput) (g : Grid) → StartsFrom start colors width height before g → (h : Grid) × (run (tokens_of colors strokes) g ≡ Some h) × End colors h

-- From each grid that a frame may begin with, the strokes lead to one whose cells before the place `k` are new.
abbrev pub ReachesPlace : Start → ℕ → ℕ → List Cell → List Cell → ℕ → Option ℕ → Option ContentStyle → List Stroke → Type 0
ReachesPlace start width height before after k cursor style strokes =
    LeadsTo start width height before strokes (λ colors. Scanned start colors width height before after k cursor style)

-- As many characters are printed as the cells have that have to be printed, and so many more.
abbrev pub CountsAll : List Cell → List Cell → ℕ → List Stroke → Type 0
CountsAll before after again strokes = (colors : ColorOutput) → (n : ℕ) × DifferAt before after n × (printed_count (tokens_of colors strokes) ≡ n + again)

-- The same of the cells before the place `k`.
abbrev pub Counts : List Cell → List Cell → ℕ → ℕ → List Stroke → Type 0
Counts before after k again strokes = CountsAll (take k before) (take k after) again strokes

-- How many styles are set before the first character, and how many other strokes there are.
abbrev pub first_styles : Start → ℕ
first_styles start.Nothing = 1
first_styles s = 0

abbrev pub first_others : Start → ℕ
first_others start.Nothing = 2
first_others start.Cells = 1
first_others (start.All at) = 0

-- The strokes begin an update, unless all is known when they begin.
abbrev pub BeginsUpdate : Start → List Stroke → Type 0
BeginsUpdate (start.All at) strokes = ⊤
BeginsUpdate s strokes = (within : List Stroke) × (strokes ≡ Begin ∷ within) × AllByRecursion IsInner within

-- The cursor is known to be at the character's place.
abbrev pub IsAt : Option ℕ → Placed → Type 0
IsAt cursor x = cursor ≡ Some x.at

-- The style that is set is known to be the character's.
abbrev pub IsSet : Option ContentStyle → Placed → Type 0
IsSet style x = style ≡ Some x.cell.style

-- The beginning of a frame, with as few strokes as its characters need. `again` is how many characters are printed that
-- are shown already, instead of moves.
pub record Spares (start : Start) (width : ℕ) (before after : List Cell) (again : ℕ) (strokes : List Stroke) : Type 0 where
  pub all : List Placed
  pub printed : ArePrinted 0 before after all
  pub moves : (n : ℕ) × (saved : ℕ) × HasRunsFrom (IsAt (known_cursor start)) (IsBeside width) all n × (again ≤ 3 * saved) × (how_many is_move_stroke strokes + saved ≤ n)
  pub styles : (n : ℕ) × HasRunsFrom (IsSet (known_style start)) HasSameStyle all n × (how_many is_style_stroke strokes ≤ n + first_styles start)
  pub others : how_many is_other_stroke strokes ≤ first_others start
  pub begun : BeginsUpdate start strokes

-- The last element of the list is related to another one. If there is none, `S` holds for that.
abbrev pub Continues : {X : Type 0} → (X → Type 0) → (X → X → Type 0) → List X → X → Type 0
Continues S R [] y = S y
Continues S R (x ∷ xs) y = Continues (R x) R xs y

-- The strokes for these cells are as few as needed. The cursor and the style are known by the last character.
pub record Sparing (start : Start) (width : ℕ) (before after : List Cell) (again : ℕ) (cursor : Option ℕ) (style : Option ContentStyle) (strokes : List Stroke) : Type 0 where
  pub spares : Spares start width before after again strokes
  pub beside : (x : Placed) → Continues (IsAt (known_cursor start)) (IsBeside width) spares.all x ↔ IsAt cursor x
  pub same : (x : Placed) → Continues (IsSet (known_style start)) HasSameStyle spares.all x ↔ IsSet style x

-- The grid shows the cells, and what is known of the cursor and of the style is true.
pub record Reached (start : Start) (colors : ColorOutput) (width height : ℕ) (after : List Cell) (cursor : Option ℕ) (style : Option ContentStyle) (h : Grid) : Type 0 where
  pub size : HasSize width height h
  pub seen : IsStillShown start h.visible
  pub cells : ShowsCells colors after h
  pub place : (n : ℕ) → cursor ≡ Some n → h.cursor ≡ Some n
  pub set : (s : ContentStyle) → style ≡ Some s → h.style ≡ look colors s

-- The strokes of a frame after all cells were visited.
pub record Visited (start : Start) (width height : ℕ) (before after : List Cell) (cursor : Option ℕ) (style : Option ContentStyle) (strokes : List Stroke) : Type 0 where
  pub leads : LeadsTo start width height before strokes (λ colors. Reached start colors width height after cursor style)
  pub again : ℕ
  pub count : CountsAll before after again strokes
  pub sparing : Sparing start width before after again cursor style strokes

-- The strokes of a whole frame: they show the new cells with the cursor at the place that was asked for.
pub record Planned (known : Bool) (width height : ℕ) (before after : List Cell) (cursor : Option (ℕ × ℕ)) (strokes : List Stroke) : Type 0 where
  pub leads : LeadsTo (start_by known) width height before strokes (λ colors. Shows colors (record { width = width; height = height; cells = after; room = 0 }) cursor)
  pub again : ℕ
  pub count : CountsAll before after again strokes
  pub update : (colors : ColorOutput) → IsOneUpdate (tokens_of colors strokes)
  pub sparing : (colors : ColorOutput) → IsSparing known width before after cursor again (tokens_of colors strokes)

-- The strokes of a frame of a row right behind the last one, which left the cursor in a column.
pub record PlannedNext (width : ℕ) (before after : List Cell) (from column : ℕ) (strokes : List Stroke) : Type 0 where
  pub leads : LeadsTo (start.All from) width 1 before strokes (λ colors. Shows colors (record { width = width; height = 1; cells = after; room = 0 }) (Some (column, 0)))
  pub short : (colors : ColorOutput) → IsLean width before after from column (tokens_of colors strokes)

-- Why strokes weren't written. It is as in `NotDrawn`, but after a fault of a command a prefix of the strokes' own text was
-- written.
abbrev pub NotWritten : Bool → DrawFault → View → View → ColorOutput → Picture → Option (ℕ × ℕ) → Option (List ℕ) → Option (List ℕ) → Type 0
NotWritten in_row (Command fault) s t colors p cursor old new =
    IsSameSize s p × CursorFits s cursor × (t ≡ forgotten s)
    × (strokes : List Stroke) × AreFitting (start_by (knows_cells s.drawn colors)) strokes × IsFrame s colors p cursor (tokens_of colors strokes)
    × AppendsFront old new (text_of (written_of in_row colors strokes))
NotWritten in_row fault s t colors p cursor old new = NotDrawn fault s t colors p cursor old new

-- Why the strokes of a frame right behind the last one weren't written. It is as in `NotDrawn` too.
abbrev pub NextNotWritten : DrawFault → View → View → ColorOutput → Picture → ℕ → ℕ → Option (List ℕ) → Option (List ℕ) → Type 0
NextNotWritten (Command fault) s t colors p from column old new =
    IsSameSize s p × CursorFits s (Some (column, 0)) × (t ≡ forgotten s)
    × (strokes : List Stroke) × AreFitting (start.All from) strokes × PlannedNext s.width (cells_before s colors) p.cells from column strokes
    × AppendsFront old new (text_of (written_of true colors strokes))
NextNotWritten fault s t colors p from column old new = NotDrawn fault s t colors p (Some (column, 0)) old new
