-- The cursor in a block of rows.
use Rattle.std.proofs.Common.{◌≡◌, ◌&&◌, ◌==◌, ◌^◌, nat_le, nat_lt, Option, Some, None, ℕ, ◌+◌, ◌-◌, ◌*◌, ◌%◌, ◌<◌, ◌≤◌, true, false, cond, List, [], ◌∷◌, ◌++◌, refl, sym, ap, ◌∙◌, subst, arith, length, replicate}
use Rattle.std.specs.Fmt.{decimal}
use Rattle.std.specs.List.{AllByRecursion}
use Rattle.std.proofs.lemmas.Bool.Decides.{nat_tests}
use Rattle.std.proofs.lemmas.List.{length-append, length-replicate}
use Rattle.std.proofs.lemmas.Nat.{mod-mul-add, mul-add-lt}
use Rattle.std.proofs.Math.Nat.{add-mul, mul_comm}
use Rattle.crossterm_command.specs.Tokens.{Token}
use Rattle.crossterm_command.proofs.Readings.{all_joined}
use Rattle.crossterm_style.specs.Looks.{plain}
use Rattle.crossterm.specs.Sequences.{by, clear}
use Rattle.crossterm.specs.declared.terminal.ClearType.TheVariants.{UntilNewLine}
use Rattle.screen.specs.Grids.{Grid, Square, blank_square, erase_from, is_plain, move_cursor, overwritten, parameter_number, place_above, place_after, place_below, place_beside, run}
use Rattle.screen.specs.Blocks.{IsRow, to_column, to_row}
use Rattle.screen.proofs.JoinedRows.{all_back, all_front, blank_is_row, joined, joined_around, joined_begun, joined_ended, joined_length}
use Rattle.screen.proofs.RowFrames.{all_overwritten}
use Rattle.screen.proofs.Rows.{overwritten_within}
use Rattle.screen.proofs.Runs.{le_true, number_read, run_then}

pub lt_true : (m n : ℕ) → m < n → nat_lt m n ≡ true
lt_true m n h = grind (arith, nat_tests)

pub lt_false : (m n : ℕ) → n ≤ m → nat_lt m n ≡ false
lt_false m n h = grind (arith, nat_tests)

lt_fact : (m n : ℕ) → nat_lt m n ≡ true → m < n
lt_fact m n h = grind (arith, nat_tests)

le_fact : (m n : ℕ) → nat_lt m n ≡ false → n ≤ m
le_fact m n h = grind (arith, nat_tests)

same_fact : (m n : ℕ) → (m == n) ≡ true → m ≡ n
same_fact m n h = grind (arith, nat_tests)

-- ---- tokens that lead somewhere

-- The tokens lead from a grid to one of which `P` holds.
abbrev pub Leads : (Grid → Type 0) → List Token → Grid → Type 0
Leads P ts g = (h : Grid) × (run ts g ≡ Some h) × P h

pub leads_then : (P Q : Grid → Type 0) (ts us : List Token) (g : Grid) → Leads P ts g → ((h : Grid) → P h → Leads Q us h) → Leads Q (ts ++ us) g
leads_then P Q ts us g d more = let n : Leads Q us d.0 = more d.0 d.2 in (n.0, run_then ts us g d.0 d.1 ∙ n.1, n.2)

-- The grid has this size and whole rows: those above a block, its own, and those below it. It has more columns than the block.
-- The visible cursor is in this row of the block and this column, and the plain style is set.
pub record BlockAt (width wide high : ℕ) (above block below : List (List Square)) (row column : ℕ) (g : Grid) : Type 0 where
  pub cells : g.cells ≡ joined (above ++ (block ++ below))
  pub columns : g.width ≡ wide
  pub lines : g.height ≡ high
  pub count : length above + (length block + length below) ≡ high
  pub rows : AllByRecursion (IsRow wide) above × AllByRecursion (IsRow wide) block × AllByRecursion (IsRow wide) below
  pub narrower : width < wide
  pub within : row < length block
  pub beside : column < wide
  pub cursor : g.cursor ≡ Some ((length above + row) * wide + column)
  pub visible : g.visible ≡ true
  pub style : g.style ≡ plain

pub stands_same : (width wide high : ℕ) (above up block kept below down : List (List Square)) (row at column side : ℕ) (g : Grid) → above ≡ up → block ≡ kept → below ≡ down → row ≡ at → column ≡ side
    → BlockAt width wide high above block below row column g → BlockAt width wide high up kept down at side g
stands_same width wide high above up block kept below down row at column side g a b d r c s =
    subst (λ l. BlockAt width wide high l kept down at side g) a
    (subst (λ l. BlockAt width wide high above l down at side g) b
    (subst (λ l. BlockAt width wide high above block l at side g) d
    (subst (λ n. BlockAt width wide high above block below n side g) r
    (subst (λ n. BlockAt width wide high above block below row n g) c s))))

-- The cursor in another place of the block.
pub stands_at : (width wide high : ℕ) (above block below : List (List Square)) (row at column side : ℕ) (p : Option ℕ) (g : Grid) → BlockAt width wide high above block below row column g → at < length block → side < wide
    → BlockAt width wide high above block below at side (record g { cursor = Some ((length above + at) * wide + side); printed = p })
stands_at width wide high above block below row at column side p g s within beside = record {
  cells = s.cells;
  columns = s.columns;
  lines = s.lines;
  count = s.count;
  rows = s.rows;
  narrower = s.narrower;
  within = within;
  beside = beside;
  cursor = refl;
  visible = s.visible;
  style = s.style;
}

-- The grid has as many cells as its size says.
pub cells_count : (width wide high : ℕ) (above block below : List (List Square)) (row column : ℕ) (g : Grid) → BlockAt width wide high above block below row column g → length g.cells ≡ high * wide
cells_count width wide high above block below row column g s =
    let count : length (above ++ (block ++ below)) ≡ high = omega (arith, s.count, length-append above (block ++ below), length-append block below) in
    ap length s.cells
    ∙ joined_length wide (above ++ (block ++ below)) (all_joined (IsRow wide) above (block ++ below) s.rows.0 (all_joined (IsRow wide) block below s.rows.1 s.rows.2))
    ∙ ap (λ n. n * wide) count

-- ---- to a row

-- A place of a row that the grid has.
pub row_inside : (n high wide column : ℕ) → n < high → column < wide → n * wide + column < high * wide
row_inside n high wide column lt side = omega (arith, mul-add-lt n wide column high lt side, mul_comm wide high)

-- CUU.
risen : (width wide high : ℕ) (above block below : List (List Square)) (from to column : ℕ) (g : Grid) → BlockAt width wide high above block below from column g → to < from → length block < 2 ^ 32
    → run (by (from - to) "A") g ≡ Some (record g { cursor = Some ((length above + to) * wide + column); printed = None })
risen width wide high above block below from to column g s lt few =
    let g1 : Grid = record g { printed = None } in
    let at : ℕ = (length above + from) * wide + column in
    let n : ℕ = from - to in
    let count : length above + from ≡ length above + to + (from - to) = omega (arith, lt) in
    let product : (length above + from) * wide ≡ (length above + to) * wide + (from - to) * wide = ap (λ k. k * wide) count ∙ add-mul (length above + to) (from - to) wide in
    let columns : (from - to) * g.width ≡ (from - to) * wide = ap (λ w. (from - to) * w) s.columns in
    let fits : (nat_le 1 n && nat_le (n * g.width) at) ≡ true =
    ap (λ b. b && nat_le (n * g.width) at) (le_true 1 n (omega (arith, lt))) ∙ le_true (n * g.width) at (omega (arith, product, columns)) in
    let place : place_above g.cursor (parameter_number (decimal n)) g1 ≡ Some ((length above + to) * wide + column) =
    ap (λ o. place_above o (parameter_number (decimal n)) g1) s.cursor ∙ ap (λ o. place_above (Some at) o g1) (number_read n (omega (arith, lt, few, s.within)))
    ∙ ap (λ b. cond b (Some (at - n * g.width)) None) fits ∙ ap Some (omega (arith, product, columns)) in
    ap (λ o. elim (move_cursor o g1) [ None ↦ None | Some h ↦ Some h ]) place

-- CUD.
sunk : (width wide high : ℕ) (above block below : List (List Square)) (from to column : ℕ) (g : Grid) → BlockAt width wide high above block below from column g → from < to → to < length block → length block < 2 ^ 32
    → run (by (to - from) "B") g ≡ Some (record g { cursor = Some ((length above + to) * wide + column); printed = None })
sunk width wide high above block below from to column g s lt within few =
    let g1 : Grid = record g { printed = None } in
    let at : ℕ = (length above + from) * wide + column in
    let n : ℕ = to - from in
    let count : length above + to ≡ length above + from + (to - from) = omega (arith, lt) in
    let product : (length above + to) * wide ≡ (length above + from) * wide + (to - from) * wide = ap (λ k. k * wide) count ∙ add-mul (length above + from) (to - from) wide in
    let columns : (to - from) * g.width ≡ (to - from) * wide = ap (λ w. (to - from) * w) s.columns in
    let inside : (length above + to) * wide + column < high * wide = row_inside (length above + to) high wide column (omega (arith, s.count, within)) s.beside in
    let fits : (nat_le 1 n && nat_lt (at + n * g.width) (length g.cells)) ≡ true =
    ap (λ b. b && nat_lt (at + n * g.width) (length g.cells)) (le_true 1 n (omega (arith, lt)))
    ∙ lt_true (at + n * g.width) (length g.cells) (omega (arith, product, columns, inside, cells_count width wide high above block below from column g s)) in
    let place : place_below g.cursor (parameter_number (decimal n)) g1 ≡ Some ((length above + to) * wide + column) =
    ap (λ o. place_below o (parameter_number (decimal n)) g1) s.cursor ∙ ap (λ o. place_below (Some at) o g1) (number_read n (omega (arith, lt, few, within)))
    ∙ ap (λ b. cond b (Some (at + n * g.width)) None) fits ∙ ap Some (omega (arith, product, columns)) in
    ap (λ o. elim (move_cursor o g1) [ None ↦ None | Some h ↦ Some h ]) place

-- CUU and CUD within the block.
pub row_led : (width wide high : ℕ) (above block below : List (List Square)) (from to column : ℕ) (g : Grid) → BlockAt width wide high above block below from column g → to < length block → length block < 2 ^ 32
    → Leads (BlockAt width wide high above block below to column) (to_row from to) g
row_led width wide high above block below from to column g s within few =
    elim (nat_lt to from) as (λ b. nat_lt to from ≡ b → Leads (BlockAt width wide high above block below to column) (cond b (by (from - to) "A") (cond (nat_lt from to) (by (to - from) "B") [])) g) [
      | true ↦ λ y. (record g { cursor = Some ((length above + to) * wide + column); printed = None }, risen width wide high above block below from to column g s (lt_fact to from y) few, there)
      | false ↦ λ y.
          elim (nat_lt from to) as (λ b. nat_lt from to ≡ b → Leads (BlockAt width wide high above block below to column) (cond b (by (to - from) "B") []) g) [
            | true ↦ λ z. (record g { cursor = Some ((length above + to) * wide + column); printed = None }, sunk width wide high above block below from to column g s (lt_fact from to z) within few, there)
            | false ↦ λ z.
                let up : from ≤ to = le_fact to from y in
                let down : to ≤ from = le_fact from to z in
                let same : from ≡ to = omega (arith, up, down) in
                (g, refl, subst (λ n. BlockAt width wide high above block below n column g) same s)
          ] refl
    ] refl
  where
    there : BlockAt width wide high above block below to column (record g { cursor = Some ((length above + to) * wide + column); printed = None })
    there = stands_at width wide high above block below from to column column None g s within s.beside

-- ---- to a column

-- The place of a row's first cell.
pub row_begins : (n wide column : ℕ) → column < wide → n * wide + column - (n * wide + column) % wide ≡ n * wide
row_begins n wide column lt = let left : (n * wide + column) % wide ≡ column = mod-mul-add n wide column lt in omega (arith, left)

-- CHA.
pub steered : (width wide high : ℕ) (above block below : List (List Square)) (row from to : ℕ) (g : Grid) → BlockAt width wide high above block below row from g → to < wide → to < 2 ^ 32
    → run (by (to + 1) "G") g ≡ Some (record g { cursor = Some ((length above + row) * wide + to); printed = None })
steered width wide high above block below row from to g s lt few =
    let g1 : Grid = record g { printed = None } in
    let start : ℕ = (length above + row) * wide in
    let begins : start + from - (start + from) % g.width ≡ start = ap (λ w. start + from - (start + from) % w) s.columns ∙ row_begins (length above + row) wide from s.beside in
    let fits : (nat_le 1 (to + 1) && nat_le (to + 1) g.width) ≡ true =
    ap (λ b. b && nat_le (to + 1) g.width) (le_true 1 (to + 1) (omega arith)) ∙ le_true (to + 1) g.width (omega (arith, lt, s.columns)) in
    let column : to + 1 - 1 ≡ to = omega arith in
    let place : place_beside g.cursor (parameter_number (decimal (to + 1))) g1 ≡ Some (start + to) =
    ap (λ o. place_beside o (parameter_number (decimal (to + 1))) g1) s.cursor ∙ ap (λ o. place_beside (Some (start + from)) o g1) (number_read (to + 1) (omega (arith, few)))
    ∙ ap (λ n. place_after n (Some (to + 1)) g1) begins ∙ ap (λ b. cond b (Some (start + (to + 1 - 1))) None) fits ∙ ap (λ n. Some (start + n)) column in
    ap (λ o. elim (move_cursor o g1) [ None ↦ None | Some h ↦ Some h ]) place

-- CHA to the row's first column.
pub first_led : (width wide high : ℕ) (above block below : List (List Square)) (row column : ℕ) (g : Grid) → BlockAt width wide high above block below row column g
    → Leads (BlockAt width wide high above block below row 0) (by 1 "G") g
first_led width wide high above block below row column g s = (
  record g { cursor = Some ((length above + row) * wide + 0); printed = None },
  steered width wide high above block below row column 0 g s (omega (arith, s.beside)) (omega arith),
  stands_at width wide high above block below row row column 0 None g s s.within (omega (arith, s.beside)),
)

-- CHA within the row.
pub column_led : (width wide high : ℕ) (above block below : List (List Square)) (row from to : ℕ) (g : Grid) → BlockAt width wide high above block below row from g → to < wide → to < 2 ^ 32
    → Leads (BlockAt width wide high above block below row to) (to_column from to) g
column_led width wide high above block below row from to g s lt few =
    elim (from == to) as (λ b. (from == to) ≡ b → Leads (BlockAt width wide high above block below row to) (cond b [] (by (to + 1) "G")) g) [
      | true ↦ λ y. (g, refl, subst (λ n. BlockAt width wide high above block below row n g) (same_fact from to y) s)
      | false ↦ λ y. (
        record g { cursor = Some ((length above + row) * wide + to); printed = None },
        steered width wide high above block below row from to g s lt few,
        stands_at width wide high above block below row row from to None g s s.within lt,
      )
    ] refl

-- ---- a row of the block

-- So many cells are before it.
pub row_placed : (width wide high : ℕ) (above front back below : List (List Square)) (row : List Square) (column : ℕ) (g : Grid) → BlockAt width wide high above (front ++ row ∷ back) below (length front) column g
    → length (joined (above ++ front)) ≡ (length above + length front) * wide
row_placed width wide high above front back below row column g s =
    joined_length wide (above ++ front) (all_joined (IsRow wide) above front s.rows.0 (all_front (IsRow wide) front (row ∷ back) s.rows.1))
    ∙ ap (λ n. n * wide) (length-append above front)

-- Above the row and below it no character goes over the ends.
pub ended_above : (width wide high : ℕ) (above front back below : List (List Square)) (row : List Square) (column : ℕ) (g : Grid) → (s : BlockAt width wide high above (front ++ row ∷ back) below (length front) column g)
    → AllByRecursion (IsRow wide) (above ++ front)
ended_above width wide high above front back below row column g s = all_joined (IsRow wide) above front s.rows.0 (all_front (IsRow wide) front (row ∷ back) s.rows.1)

pub begun_below : (width wide high : ℕ) (above front back below : List (List Square)) (row : List Square) (column : ℕ) (g : Grid) → (s : BlockAt width wide high above (front ++ row ∷ back) below (length front) column g)
    → AllByRecursion (IsRow wide) (back ++ below)
begun_below width wide high above front back below row column g s =
    let rest : AllByRecursion (IsRow wide) (row ∷ back) = all_back (IsRow wide) front (row ∷ back) s.rows.1 in
    all_joined (IsRow wide) back below rest.1 s.rows.2

-- Another row in its place.
pub stands_with : (width wide high : ℕ) (above front back below : List (List Square)) (row new : List Square) (column side : ℕ) (g h : Grid) → BlockAt width wide high above (front ++ row ∷ back) below (length front) column g
    → IsRow wide new → h.cells ≡ joined (above ++ front) ++ (new ++ joined (back ++ below)) → h.width ≡ g.width → h.height ≡ g.height → side < wide
    → h.cursor ≡ Some ((length above + length front) * wide + side) → h.visible ≡ true → h.style ≡ plain → BlockAt width wide high above (front ++ new ∷ back) below (length front) side h
stands_with width wide high above front back below row new column side g h s is cells columns lines beside cursor visible style =
    let rest : AllByRecursion (IsRow wide) (row ∷ back) = all_back (IsRow wide) front (row ∷ back) s.rows.1 in
    record {
      cells = cells ∙ sym (joined_around above front back below new);
      columns = columns ∙ s.columns;
      lines = lines ∙ s.lines;
      count = omega (arith, s.count, length-append front (row ∷ back), length-append front (new ∷ back));
      rows = (s.rows.0, all_joined (IsRow wide) front (new ∷ back) (all_front (IsRow wide) front (row ∷ back) s.rows.1) (is, rest.1), s.rows.2);
      narrower = s.narrower;
      within = omega (arith, length-append front (new ∷ back));
      beside = beside;
      cursor = cursor;
      visible = visible;
      style = style;
    }

-- EL from a row's first cell.
pub erased_led : (width wide high : ℕ) (above front back below : List (List Square)) (row : List Square) (g : Grid) → BlockAt width wide high above (front ++ row ∷ back) below (length front) 0 g
    → Leads (BlockAt width wide high above (front ++ replicate wide blank_square ∷ back) below (length front) 0) (clear UntilNewLine) g
erased_led width wide high above front back below row g s =
    let before : List Square = joined (above ++ front) in
    let behind : List Square = joined (back ++ below) in
    let blanks : List Square = replicate wide blank_square in
    let g1 : Grid = record g { printed = None } in
    let at : ℕ = (length above + length front) * wide + 0 in
    let long : length before ≡ (length above + length front) * wide = row_placed width wide high above front back below row 0 g s in
    let left : ((length above + length front) * wide + 0) % wide ≡ 0 = mod-mul-add (length above + length front) wide 0 (omega (arith, s.beside)) in
    let count : g.width - at % g.width ≡ wide = ap (λ w. w - at % w) s.columns ∙ ap (λ n. wide - n) left ∙ (omega arith) in
    let rest : AllByRecursion (IsRow wide) (row ∷ back) = all_back (IsRow wide) front (row ∷ back) s.rows.1 in
    let same : length blanks ≡ length row = length-replicate wide blank_square ∙ sym rest.0.0 in
    let cells : overwritten g.cells at (replicate (g.width - at % g.width) blank_square) ≡ before ++ (blanks ++ behind) =
    ap (λ n. overwritten g.cells at (replicate n blank_square)) count ∙ ap (λ l. overwritten l at blanks) (s.cells ∙ joined_around above front back below row)
    ∙ ap (λ n. overwritten (before ++ (row ++ behind)) n blanks) (ap (λ n. n + 0) (sym long))
    ∙ overwritten_within before row behind blanks 0 (joined_ended wide (above ++ front) (ended_above width wide high above front back below row 0 g s))
    (joined_begun wide (back ++ below) (begun_below width wide high above front back below row 0 g s)) (omega (arith, same))
    ∙ ap (λ l. before ++ (l ++ behind)) (all_overwritten row blanks same) in (
      record g1 { cells = before ++ (blanks ++ behind) },
      ap (λ t. elim (cond (is_plain t) (erase_from g.cursor g1) None) [ None ↦ None | Some h ↦ Some h ]) s.style ∙ ap (λ o. elim (erase_from o g1) [ None ↦ None | Some h ↦ Some h ]) s.cursor
          ∙ ap (λ l. Some (record g1 { cells = l })) cells,
      stands_with width wide high above front back below row blanks 0 0 g (record g1 { cells = before ++ (blanks ++ behind) }) s (blank_is_row wide) refl refl refl s.beside s.cursor s.visible s.style,
    )
