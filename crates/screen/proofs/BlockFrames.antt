-- A frame of a block, by its parts.
use Rattle.std.proofs.Common.{◌≡◌, ◌==◌, ◌^◌, Option, Some, None, get_or, ℕ, zero, suc, ◌+◌, ◌-◌, ◌*◌, ◌<◌, ◌≤◌, true, false, cond, List, [], ◌∷◌, ◌++◌, refl, sym, ap, ◌∙◌, subst, arith, drop, length, replicate}
use Rattle.std.specs.List.{AllByRecursion}
use Rattle.std.proofs.lemmas.Bool.Decides.{nat_tests}
use Rattle.std.proofs.lemmas.List.{length-append, length-drop, length-replicate}
use Rattle.crossterm_command.specs.Controls.{set}
use Rattle.crossterm_command.specs.Tokens.{Token}
use Rattle.crossterm_command.specs.declared.color_output.ColorOutput.{ColorOutput}
use Rattle.crossterm_style.specs.declared.types.attribute.Attribute.TheVariants.{Reset}
use Rattle.crossterm_style.specs.Looks.{plain}
use Rattle.crossterm_style.specs.Styles.{attribute_functions}
use Rattle.crossterm.specs.Sequences.{by, clear}
use Rattle.crossterm.specs.declared.terminal.ClearType.TheVariants.{UntilNewLine}
use Rattle.screen.specs.Buffers.{Picture}
use Rattle.screen.specs.Cells.{Cell, blank}
use Rattle.screen.specs.Grids.{Grid, Square, blank_square, run}
use Rattle.screen.specs.Strips.{IsShortFrame, LiesIn, row_cells}
use Rattle.screen.specs.Blocks.{BlockView, HasBlock, HasCursorIn, IsAsLeft, IsRow, ShowsBlock, ShowsRows, TurnsBlock, Visits, added, beginning, begun_column, blank_rows, grown_column, grown_row, growth, known_rows, picture_rows, row_picture, row_squares, row_strip, cut_rows, to_column, to_row}
use Rattle.screen.specs.Blocks.Visits.{at_last, changed}
use Rattle.screen.specs.inside.BlockRows.{IsCellRow, IsInRows}
use Rattle.screen.proofs.JoinedRows.{all_back, blank_squares, cells_are_row, joined, joined_around, joined_begun, joined_ended, squares_append, squares_length}
use Rattle.screen.proofs.Standing.{Leads, BlockAt, begun_below, column_led, ended_above, erased_led, first_led, leads_then, row_led, row_placed, stands_same, stands_with}
use Rattle.screen.proofs.Growing.{grown_led}

-- ---- a visit of a row

-- The row in the grid.
row_lies : (width wide high : ℕ) (above front back below : List (List Square)) (row : List Square) (column : ℕ) (g : Grid) → BlockAt width wide high above (front ++ row ∷ back) below (length front) column g
    → LiesIn width (joined (above ++ front)) row (joined (back ++ below)) g
row_lies width wide high above front back below row column g s =
    let long : length (joined (above ++ front)) ≡ (length above + length front) * wide = row_placed width wide high above front back below row column g s in
    let rest : AllByRecursion (IsRow wide) (row ∷ back) = all_back (IsRow wide) front (row ∷ back) s.rows.1 in
    record {
      cells = s.cells ∙ joined_around above front back below row;
      rows = (length above + length front, long ∙ ap (λ w. (length above + length front) * w) (sym s.columns));
      whole = rest.0.0 ∙ sym s.columns;
      narrower = omega (arith, s.narrower, s.columns);
      cursor = (column, omega (arith, s.beside, s.columns), s.cursor ∙ ap (λ n. Some (n + column)) (sym long));
      left = joined_ended wide (above ++ front) (ended_above width wide high above front back below row column g s);
      right = joined_begun wide (back ++ below) (begun_below width wide high above front back below row column g s);
    }

-- A frame of a row's strip.
visited : (width wide high : ℕ) (colors : ColorOutput) (above front back below : List (List Square)) (old new : List Cell) (column to : ℕ) (frame : List Token) (g : Grid)
    → BlockAt width wide high above (front ++ row_cells colors old (wide - width) ∷ back) below (length front) column g
    → IsShortFrame (row_strip width colors old) colors (row_picture width new) column to frame → IsCellRow width new
    → Leads (BlockAt width wide high above (front ++ row_cells colors new (wide - width) ∷ back) below (length front) to) frame g
visited width wide high colors above front back below old new column to frame g s short is =
    let before : List Square = joined (above ++ front) in
    let behind : List Square = joined (back ++ below) in
    let row : List Square = row_cells colors old (wide - width) in
    let long : length (joined (above ++ front)) ≡ (length above + length front) * wide = row_placed width wide high above front back below row column g s in
    let (h, new_row, ran, shows) =
    short.turns before row behind g (row_lies width wide high above front back below row column g s) (ap (λ w. row_cells colors old (w - width)) (sym s.columns))
    (s.cursor ∙ ap (λ n. Some (n + column)) (sym long), s.visible) s.style in
    let there : h.cursor ≡ Some (length before + to) = shows.points.0 in
    let (at, beside, is_at) = shows.lies.cursor in
    let same : to ≡ at = to_there (length before) to at (sym there ∙ is_at) in
    let fits : to < wide = omega (arith, same, beside, shows.columns, s.columns) in (
      h,
      ran,
      stands_with width wide high above front back below row (row_cells colors new (wide - width)) column to g h s (cells_are_row colors width wide new s.narrower is)
          (shows.lies.cells ∙ ap (λ l. before ++ (l ++ behind)) (shows.cells ∙ ap (λ w. row_cells colors new (w - width)) s.columns)) shows.columns shows.rows fits (there ∙ ap (λ n. Some (n + to)) long) shows.points.1
          shows.style,
    )
  where
    to_there : (n a b : ℕ) → Some (n + a) ≡ Some (n + b) → a ≡ b
    to_there n a b e = let same : n + a ≡ n + b = cc in omega (arith, same)

-- ---- visits

-- What holds of each holds of the one at a place.
get_all : {X : Type 0} (P : X → Type 0) (xs : List X) (k : ℕ) (d : X) → AllByRecursion P xs → k < length xs → P (get_or xs k d)
get_all P [] k d a lt = absurd (omega (arith, lt))
get_all P (x ∷ xs) zero d a lt = a.0
get_all P (x ∷ xs) (suc k) d a lt = get_all P xs k d a.1 (omega (arith, lt))

-- A row among others.
squares_around : (colors : ColorOutput) (front back : List (List Cell)) (row : List Cell) (n : ℕ) → row_squares colors (front ++ row ∷ back) n ≡ row_squares colors front n ++ row_cells colors row n ∷ row_squares colors back n
squares_around colors front back row n = squares_append colors front (row ∷ back) n

-- Visits, and the way to the cursor's place.
visits_led : (width wide high : ℕ) (colors : ColorOutput) (above below : List (List Square)) (after : List (List Cell)) (end_column end_row : ℕ) (rows : List (List Cell)) (row column : ℕ) (ts : List Token)
    → Visits width colors after end_column end_row rows row column ts → AllByRecursion (IsCellRow width) after → length rows ≡ length after → length after < 2 ^ 32 → end_row < length after → end_column < width → width < 2 ^ 32
    → (g : Grid) → BlockAt width wide high above (row_squares colors rows (wide - width)) below row column g
    → Leads (BlockAt width wide high above (row_squares colors after (wide - width)) below end_row end_column) ts g
visits_led width wide high colors above below after end_column end_row _ _ _ _ (at_last rows row column ts e is) all size few fits beside narrow g s =
    let block : List (List Square) = row_squares colors after (wide - width) in
    let here : BlockAt width wide high above block below row column g = subst (λ l. BlockAt width wide high above (row_squares colors l (wide - width)) below row column g) e s in
    let long : length (row_squares colors after (wide - width)) ≡ length after = squares_length colors after (wide - width) in
    subst (λ l. Leads (BlockAt width wide high above block below end_row end_column) l g) (sym is)
    (leads_then (BlockAt width wide high above block below end_row column) (BlockAt width wide high above block below end_row end_column) (to_row row end_row) (to_column column end_column) g
    (row_led width wide high above block below row end_row column g here (omega (arith, long, fits)) (omega (arith, long, few)))
    (λ h d. column_led width wide high above block below end_row column end_column h d (omega (arith, beside, s.narrower)) (omega (arith, beside, narrow))))
visits_led width wide high colors above below after end_column end_row _ _ _ _ (changed rows row column ts front back old new to frame more e get apart short rest is) all size few fits beside narrow g s =
    let blanks : ℕ = wide - width in
    let first : List (List Square) = row_squares colors front blanks in
    let last : List (List Square) = row_squares colors back blanks in
    let block : List (List Square) = first ++ row_cells colors old blanks ∷ last in
    let next : List (List Square) = row_squares colors (front ++ new ∷ back) blanks in
    let count : length rows ≡ length front + suc (length back) = ap length e ∙ length-append front (old ∷ back) in
    let next_count : length (front ++ new ∷ back) ≡ length after = omega (arith, length-append front (new ∷ back), count, size) in
    let place : length (row_squares colors front (wide - width)) ≡ length front = squares_length colors front (wide - width) in
    let joined_is : row_squares colors rows blanks ≡ block = ap (λ l. row_squares colors l blanks) e ∙ squares_around colors front back old blanks in
    let here : BlockAt width wide high above block below row column g = subst (λ l. BlockAt width wide high above l below row column g) joined_is s in
    let long : length block ≡ length after = ap length (sym joined_is) ∙ squares_length colors rows blanks ∙ size in
    let cells : IsCellRow width new = subst (IsCellRow width) get (get_all (IsCellRow width) after (length front) [] all (omega (arith, count, size))) in
    subst (λ l. Leads (BlockAt width wide high above (row_squares colors after blanks) below end_row end_column) l g) (sym is)
    (leads_then (BlockAt width wide high above block below (length first) column) (BlockAt width wide high above (row_squares colors after blanks) below end_row end_column) (to_row row (length front)) (frame ++ more) g
    (subst (λ n. Leads (BlockAt width wide high above block below n column) (to_row row (length front)) g) (sym place)
    (row_led width wide high above block below row (length front) column g here (omega (arith, long, count, size)) (omega (arith, long, few))))
    (λ h d.
    leads_then (BlockAt width wide high above next below (length front) to) (BlockAt width wide high above (row_squares colors after blanks) below end_row end_column) frame more h
    (let went : Leads (BlockAt width wide high above (first ++ row_cells colors new blanks ∷ last) below (length first) to) frame h = visited width wide high colors above first last below old new column to frame h d short cells in (
      went.0,
      went.1,
      stands_same width wide high above above (first ++ row_cells colors new blanks ∷ last) next below below (length first) (length front) to to went.0 refl (sym (squares_around colors front back new blanks)) refl place refl went.2,
    ))
    (λ k f. visits_led width wide high colors above below after end_column end_row (front ++ new ∷ back) (length front) to more rest all next_count few fits beside narrow k f)))

-- ---- the beginning

-- The plain style and a visible cursor.
abbrev fresh : Grid → Grid
fresh g = record g { style = plain; visible = true; printed = None }

-- They are set first.
freshened : (ts : List Token) (g : Grid) → run (attribute_functions Reset ++ (set "25" ++ ts)) g ≡ run ts (fresh g)
freshened ts g = refl

-- A block that is there, and the cursor in it.
has_stands : (width : ℕ) (above block below : List (List Square)) (row column : ℕ) (g : Grid) → HasBlock width above block below g → row < length block → HasCursorIn (length above) row column g → g.visible ≡ true → g.style ≡ plain
    → BlockAt width g.width g.height above block below row column g
has_stands width above block below row column g has within place visible style = record {
  cells = has.cells;
  columns = refl;
  lines = refl;
  count = has.height;
  rows = has.rows;
  narrower = has.narrower;
  within = within;
  beside = place.0;
  cursor = place.1;
  visible = visible;
  style = style;
}

-- The same if they are set.
fresh_stands : (width : ℕ) (above block below : List (List Square)) (row column : ℕ) (g : Grid) → HasBlock width above block below g → row < length block → HasCursorIn (length above) row column g
    → BlockAt width g.width g.height above block below row column (fresh g)
fresh_stands width above block below row column g has within place = record {
  cells = has.cells;
  columns = refl;
  lines = refl;
  count = has.height;
  rows = has.rows;
  narrower = has.narrower;
  within = within;
  beside = place.0;
  cursor = place.1;
  visible = refl;
  style = refl;
}

-- The rows that are known once a frame has begun, by those of the last one.
abbrev known_of : ℕ → List (List Cell) → List (List Cell)
known_of width rows = cond (length rows == 0) (blank_rows width 1) rows

some_rows : (n : ℕ) → (suc n == 0) ≡ false
some_rows n = grind (arith, nat_tests)

one_row : (block : List (List Square)) → length block ≡ 1 → (row : List Square) × (block ≡ row ∷ [])
one_row [] e = absurd (omega (arith, e))
one_row (row ∷ []) e = (row, refl)
one_row (row ∷ other ∷ block) e = absurd (omega (arith, e))

-- What a frame begins with leads to known rows, the cursor in one of them.
begun_led : (width room at : ℕ) (colors : ColorOutput) (rows : List (List Cell)) (left : Option ℕ) (above block below : List (List Square)) (g : Grid) → IsInRows width (length rows) at left
    → HasBlock width above block below g → ShowsRows colors rows (g.width - width) block → IsAsLeft (record { width = width; colors = colors; rows = rows; row = at; column = left; room = room }) (length above) g
    → Leads (BlockAt width g.width g.height above (row_squares colors (known_of width rows) (g.width - width)) below at (begun_column left)) (beginning (length rows) left) g
begun_led width room at colors [] (Some left) above block below g placed has shows is = let no : Some left ≡ None = placed.1 in cc
begun_led width room at colors [] None above block below g placed has shows is =
    let column = is.0 in
    let row = (one_row block shows).0 in
    let e : block ≡ row ∷ [] = (one_row block shows).1 in
    let only : HasBlock width above (row ∷ []) below g = subst (λ l. HasBlock width above l below g) e has in
    let place : HasCursorIn (length above) 0 column g = subst (λ n. HasCursorIn (length above) n column g) placed.0 is.1 in
    let s : BlockAt width g.width g.height above (row ∷ []) below 0 column (fresh g) = fresh_stands width above (row ∷ []) below 0 column g only (omega arith) place in
    let blank : row_squares colors (blank_rows width 1) (g.width - width) ≡ replicate g.width blank_square ∷ [] = blank_squares colors width g.width 1 s.narrower in
    let d = leads_then (BlockAt width g.width g.height above (row ∷ []) below 0 0) (BlockAt width g.width g.height above (replicate g.width blank_square ∷ []) below 0 0) (by 1 "G") (clear UntilNewLine) (fresh g)
    (first_led width g.width g.height above (row ∷ []) below 0 column (fresh g) s) (λ h k. erased_led width g.width g.height above [] [] below row h k) in (
      d.0,
      freshened (by 1 "G" ++ clear UntilNewLine) g ∙ d.1,
      stands_same width g.width g.height above above (replicate g.width blank_square ∷ []) (row_squares colors (blank_rows width 1) (g.width - width)) below below 0 at 0 0 d.0 refl (sym blank) refl (sym placed.0) refl d.2,
    )
begun_led width room at colors (cells ∷ rows) None above block below g placed has shows is =
    let column = is.0 in
    let squares : List (List Square) = row_squares colors (cells ∷ rows) (g.width - width) in
    let known : HasBlock width above squares below g = subst (λ l. HasBlock width above l below g) shows has in
    let long : length (row_squares colors (cells ∷ rows) (g.width - width)) ≡ length (cells ∷ rows) = squares_length colors (cells ∷ rows) (g.width - width) in
    let s : BlockAt width g.width g.height above squares below at column (fresh g) = fresh_stands width above squares below at column g known (omega (arith, placed.0, long)) is.1 in
    let d = first_led width g.width g.height above squares below at column (fresh g) s in
    subst (λ b. Leads (BlockAt width g.width g.height above (row_squares colors (cond b (blank_rows width 1) (cells ∷ rows)) (g.width - width)) below at 0)
    (attribute_functions Reset ++ (set "25" ++ (by 1 "G" ++ cond b (clear UntilNewLine) []))) g) (sym (some_rows (length rows)))
    (d.0, freshened (by 1 "G") g ∙ d.1, d.2)
begun_led width room at colors (cells ∷ rows) (Some left) above block below g placed has shows is =
    let column = is.0 in
    let squares : List (List Square) = row_squares colors (cells ∷ rows) (g.width - width) in
    let known : HasBlock width above squares below g = subst (λ l. HasBlock width above l below g) shows has in
    let long : length (row_squares colors (cells ∷ rows) (g.width - width)) ≡ length (cells ∷ rows) = squares_length colors (cells ∷ rows) (g.width - width) in
    let s : BlockAt width g.width g.height above squares below at column g = has_stands width above squares below at column g known (omega (arith, placed.0, long)) is.1 is.2.1 is.2.2 in
    subst (λ b. Leads (BlockAt width g.width g.height above (row_squares colors (cond b (blank_rows width 1) (cells ∷ rows)) (g.width - width)) below at left) [] g) (sym (some_rows (length rows)))
    (g, refl, subst (λ n. BlockAt width g.width g.height above squares below at n g) is.2.0 s)

-- ---- the frame

-- A block of the picture's rows shows the picture.
shown : (s : BlockView) (p : Picture) (column row : ℕ) (above block below : List (List Square)) (g h : Grid)
    → BlockAt s.width g.width g.height (drop (added s p - length below) above) (row_squares s.colors (picture_rows p) (g.width - s.width)) (drop (added s p) below) row column h
    → ShowsBlock s p column row above block below g h
shown s p column row above block below g h d =
    let up : List (List Square) = drop (added s p - length below) above in
    let squares : List (List Square) = row_squares s.colors (picture_rows p) (g.width - s.width) in
    let down : List (List Square) = drop (added s p) below in
    record {
      width = d.columns;
      height = d.lines;
      lies = record {
        cells = d.cells;
        height = d.count ∙ sym d.lines;
        rows = subst (λ w. AllByRecursion (IsRow w) up × AllByRecursion (IsRow w) squares × AllByRecursion (IsRow w) down) (sym d.columns) d.rows;
        narrower = subst (λ w. s.width < w) (sym d.columns) d.narrower;
      };
      place = subst (λ n. HasCursorIn n row column h) (length-drop (added s p - length below) above)
          (subst (λ w. column < w) (sym d.columns) d.beside, d.cursor ∙ ap (λ w. Some ((length up + row) * w + column)) (sym d.columns));
      visible = d.visible;
      style = d.style;
    }

-- A picture has as many rows as it should.
rows_count : (width n : ℕ) (cells : List Cell) → length (cut_rows width n cells) ≡ n
rows_count width zero cells = refl
rows_count width (suc n) cells = ap (λ k. suc k) (rows_count width n (drop width cells))

-- It has at least as many as are known.
known_count : (s : BlockView) (p : Picture) (row : ℕ) → length s.rows ≤ p.height → row < p.height → length (known_rows s) ≤ p.height
known_count s p row le lt = by_rows s.rows le
  where
    by_rows : (rows : List (List Cell)) → length rows ≤ p.height → length (known_of s.width rows) ≤ p.height
    by_rows [] l = omega (arith, lt)
    by_rows (cells ∷ rows) l = subst (λ b. length (cond b (blank_rows s.width 1) (cells ∷ rows)) ≤ p.height) (sym (some_rows (length rows))) l

-- The rows that are known, and those that are added.
grown_known : (s : BlockView) (p : Picture) (above below : List (List Square)) (g h : Grid) → length (known_rows s) ≤ p.height → p.height ≤ g.height → p.height < 2 ^ 32 → s.width < g.width
    → BlockAt s.width g.width g.height above (row_squares s.colors (known_rows s) (g.width - s.width)) below s.row (begun_column s.column) h
    → Leads (BlockAt s.width g.width g.height (drop (added s p - length below) above) (row_squares s.colors (known_rows s ++ blank_rows s.width (added s p)) (g.width - s.width)) (drop (added s p) below)
    (grown_row (length (known_rows s)) s.row (added s p)) (grown_column (begun_column s.column) (added s p))) (growth (length (known_rows s)) s.row (added s p)) h
grown_known s p above below g h some tall low lt e =
    let n : ℕ = added s p in
    let blanks : ℕ = g.width - s.width in
    let squares : List (List Square) = row_squares s.colors (known_rows s) blanks in
    let few : length (row_squares s.colors (known_rows s) (g.width - s.width)) ≡ length (known_rows s) = squares_length s.colors (known_rows s) (g.width - s.width) in
    let grown : squares ++ replicate n (replicate g.width blank_square) ≡ row_squares s.colors (known_rows s ++ blank_rows s.width n) blanks =
    ap (λ l. squares ++ l) (sym (blank_squares s.colors s.width g.width n lt)) ∙ sym (squares_append s.colors (known_rows s) (blank_rows s.width n) blanks) in
    let d = grown_led n s.width g.width g.height above squares below s.row (begun_column s.column) h e (omega (arith, few, some, low)) (omega (arith, few, some, tall)) in
    subst (λ k. Leads (BlockAt s.width g.width g.height (drop (n - length below) above) (row_squares s.colors (known_rows s ++ blank_rows s.width n) blanks) (drop n below) (grown_row k s.row n)
    (grown_column (begun_column s.column) n)) (growth k s.row n) h) few
    (subst (λ l. Leads (BlockAt s.width g.width g.height (drop (n - length below) above) l (drop n below) (grown_row (length squares) s.row n) (grown_column (begun_column s.column) n)) (growth (length squares) s.row n) h) grown d)

-- The parts of a frame lead from each block that may be there to one that shows the picture.
pub turns_block : (s : BlockView) (p : Picture) (column row : ℕ) (visiting : List Token) → p.width ≡ s.width → length s.rows ≤ p.height → AllByRecursion (IsCellRow s.width) (picture_rows p) → IsInRows s.width (length s.rows) s.row s.column
    → column < p.width → row < p.height → p.width < 2 ^ 32 → p.height < 2 ^ 32
    → Visits s.width s.colors (picture_rows p) column row (known_rows s ++ blank_rows s.width (added s p)) (grown_row (length (known_rows s)) s.row (added s p)) (grown_column (begun_column s.column) (added s p)) visiting
    → TurnsBlock s p column row (beginning (length s.rows) s.column ++ (growth (length (known_rows s)) s.row (added s p) ++ visiting))
turns_block s p column row visiting wide_as fits all placed beside within narrow low visits above block below g has shows left tall =
    let known : List (List Cell) = known_rows s in
    let n : ℕ = added s p in
    let blanks : ℕ = g.width - s.width in
    let squares : List (List Square) = row_squares s.colors known blanks in
    let rows : List (List Cell) = known ++ blank_rows s.width n in
    let up : List (List Square) = drop (n - length below) above in
    let down : List (List Square) = drop n below in
    let end : List (List Square) = row_squares s.colors (picture_rows p) blanks in
    let some : length (known_rows s) ≤ p.height = known_count s p row fits within in
    let tall_rows : length (picture_rows p) ≡ p.height = rows_count p.width p.height p.cells in
    let size : length (known_rows s ++ blank_rows s.width (added s p)) ≡ length (picture_rows p) =
    omega (arith, length-append (known_rows s) (blank_rows s.width (added s p)), length-replicate (added s p) (replicate s.width blank), some, tall_rows) in
    let d = leads_then (BlockAt s.width g.width g.height above squares below s.row (begun_column s.column)) (BlockAt s.width g.width g.height up end down row column) (beginning (length s.rows) s.column)
    (growth (length known) s.row n ++ visiting) g (begun_led s.width s.room s.row s.colors s.rows s.column above block below g placed has shows left)
    (λ h e.
    leads_then (BlockAt s.width g.width g.height up (row_squares s.colors rows blanks) down (grown_row (length known) s.row n) (grown_column (begun_column s.column) n)) (BlockAt s.width g.width g.height up end down row column)
    (growth (length known) s.row n) visiting h (grown_known s p above below g h some tall low has.narrower e)
    (λ k f.
    visits_led s.width g.width g.height s.colors up down (picture_rows p) column row rows (grown_row (length known) s.row n) (grown_column (begun_column s.column) n) visiting visits all size (omega (arith, tall_rows, low))
    (omega (arith, tall_rows, within)) (omega (arith, beside, wide_as)) (omega (arith, narrow, wide_as)) k f)) in
    (d.0, d.1, shown s p column row above block below g d.0 d.2)
