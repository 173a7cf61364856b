-- Rows of a grid, one after another.
use Rattle.std.proofs.Common.{◌≡◌, flat_map, ℕ, zero, suc, ◌+◌, ◌-◌, ◌*◌, ◌<◌, true, false, cond, List, [], ◌∷◌, ◌++◌, refl, sym, ap, ◌∙◌, subst, arith, append_assoc, length, map, replicate}
use Rattle.std.specs.List.{AllByRecursion}
use Rattle.std.proofs.lemmas.List.{length-append, length-map, length-replicate, map-append, replicate-append-replicate}
use Rattle.std.proofs.lemmas.List.Concat.{flat_map-append}
use Rattle.std.proofs.Math.Nat.{add-mul}
use Rattle.crossterm_command.specs.declared.color_output.ColorOutput.{ColorOutput}
use Rattle.screen.specs.Cells.{ArePaired, Cell, blank, cell_look, is_covered, is_wide, look, shown_text}
use Rattle.screen.specs.Grids.{Square, begun, blank_square, ended, without_first}
use Rattle.screen.specs.Grids.Square.{First, Second, Whole}
use Rattle.screen.specs.Strips.{row_cells}
use Rattle.screen.specs.Blocks.{IsRow, blank_rows, row_squares}
use Rattle.screen.specs.inside.BlockRows.{IsCellRow}
use Rattle.screen.proofs.Rows.{begun_before, ended_behind}
use Rattle.screen.proofs.Runs.{looks_plain}
use Rattle.screen.proofs.Squares.{blank_seen}

-- ---- lists

-- What holds of each of some lists' elements holds of each of one's.
pub all_front : {X : Type 0} (P : X → Type 0) (xs ys : List X) → AllByRecursion P (xs ++ ys) → AllByRecursion P xs
all_front P [] ys a = tt
all_front P (x ∷ xs) ys a = (a.0, all_front P xs ys a.1)

pub all_back : {X : Type 0} (P : X → Type 0) (xs ys : List X) → AllByRecursion P (xs ++ ys) → AllByRecursion P ys
all_back P [] ys a = a
all_back P (x ∷ xs) ys a = all_back P xs ys a.1

map_replicated : {X Y : Type 0} (f : X → Y) (n : ℕ) (x : X) → map f (replicate n x) ≡ replicate n (f x)
map_replicated f zero x = refl
map_replicated f (suc n) x = ap (λ l. f x ∷ l) (map_replicated f n x)

-- One row more.
pub more_times : (n width : ℕ) → (n + 1) * width ≡ n * width + width
more_times n width = omega (arith, add-mul n 1 width)

-- ---- the cells of rows

abbrev pub joined : List (List Square) → List Square
joined rows = flat_map (λ row. row) rows

pub joined_append : (xs ys : List (List Square)) → joined (xs ++ ys) ≡ joined xs ++ joined ys
joined_append xs ys = flat_map-append (λ row. row) xs ys

pub joined_length : (width : ℕ) (rows : List (List Square)) → AllByRecursion (IsRow width) rows → length (joined rows) ≡ length rows * width
joined_length width [] a = omega arith
joined_length width (row ∷ rows) a =
    let more : length (joined rows) ≡ length rows * width = joined_length width rows a.1 in
    let count : suc (length rows) * width ≡ (length rows + 1) * width = ap (λ n. n * width) (omega arith) in
    omega (arith, length-append row (joined rows), a.0.0, more, count, more_times (length rows) width)

-- No character of two cells goes over their ends.
pub joined_begun : (width : ℕ) (rows : List (List Square)) → AllByRecursion (IsRow width) rows → begun (joined rows) ≡ joined rows
joined_begun width [] a = refl
joined_begun width (row ∷ rows) a = begun_before row (joined rows) (joined_begun width rows a.1) ∙ ap (λ l. l ++ joined rows) a.0.1

pub joined_ended : (width : ℕ) (rows : List (List Square)) → AllByRecursion (IsRow width) rows → ended (joined rows) ≡ joined rows
joined_ended width [] a = refl
joined_ended width (row ∷ rows) a = ended_behind row (joined rows) a.0.2 ∙ ap (λ l. row ++ l) (joined_ended width rows a.1)

-- A row by the cells before it and behind it.
pub joined_around : (above front back below : List (List Square)) (row : List Square)
    → joined (above ++ ((front ++ row ∷ back) ++ below)) ≡ joined (above ++ front) ++ (row ++ joined (back ++ below))
joined_around above front back below row =
    ap (λ l. joined (above ++ l)) (append_assoc front (row ∷ back) below) ∙ ap joined (sym (append_assoc above front (row ∷ (back ++ below)))) ∙ joined_append (above ++ front) (row ∷ (back ++ below))

-- ---- a row of cells

-- Blank cells have no character of two cells.
blanks_ended : (n : ℕ) → ended (replicate n blank_square) ≡ replicate n blank_square
blanks_ended zero = refl
blanks_ended (suc zero) = refl
blanks_ended (suc (suc n)) = ap (λ l. blank_square ∷ l) (blanks_ended (suc n))

-- No row that has blank cells at last ends with the first one.
ended_in_blanks : (xs : List Square) (n : ℕ) → ended (xs ++ replicate (suc n) blank_square) ≡ xs ++ replicate (suc n) blank_square
ended_in_blanks [] n = blanks_ended (suc n)
ended_in_blanks (x ∷ []) n = ap (λ l. x ∷ l) (blanks_ended (suc n))
ended_in_blanks (x ∷ y ∷ xs) n = ap (λ l. x ∷ l) (ended_in_blanks (y ∷ xs) n)

blanks_begun : (n : ℕ) → begun (replicate n blank_square) ≡ replicate n blank_square
blanks_begun zero = refl
blanks_begun (suc n) = refl

-- A blank row.
pub blank_is_row : (wide : ℕ) → IsRow wide (replicate wide blank_square)
blank_is_row wide = (length-replicate wide blank_square, blanks_begun wide, blanks_ended wide)

look_stays : (colors : ColorOutput) (c : Cell) → is_covered c ≡ false → without_first (cell_look colors c) ≡ cell_look colors c
look_stays colors c =
    elim (is_covered c) as (λ b. b ≡ false
    → without_first (cond b Second (cond (is_wide c) (First (shown_text c) (look colors c.style)) (Whole (shown_text c) (look colors c.style))))
    ≡ cond b Second (cond (is_wide c) (First (shown_text c) (look colors c.style)) (Whole (shown_text c) (look colors c.style)))) [
      | true ↦ λ e. cc
      | false ↦ λ e.
          elim (is_wide c) as (λ w. without_first (cond w (First (shown_text c) (look colors c.style)) (Whole (shown_text c) (look colors c.style)))
          ≡ cond w (First (shown_text c) (look colors c.style)) (Whole (shown_text c) (look colors c.style))) [ true ↦ refl | false ↦ refl ]
    ]

-- No row begins with the second cell of a character.
row_begun : (colors : ColorOutput) (cells : List Cell) (n : ℕ) → ArePaired false cells → begun (row_cells colors cells n) ≡ row_cells colors cells n
row_begun colors [] n a = blanks_begun n
row_begun colors (c ∷ cells) n a = ap (λ x. x ∷ (map (cell_look colors) cells ++ replicate n blank_square)) (look_stays colors c a.0)

-- The looks of a row's cells, with blank ones behind them.
pub cells_are_row : (colors : ColorOutput) (width wide : ℕ) (cells : List Cell) → width < wide → IsCellRow width cells → IsRow wide (row_cells colors cells (wide - width))
cells_are_row colors width wide cells lt is =
    let blanks = wide - width in
    let one : wide - width ≡ suc (wide - width - 1) = omega (arith, lt) in (
      omega (arith, lt, is.0, length-append (map (cell_look colors) cells) (replicate blanks blank_square), length-map cells (cell_look colors), length-replicate blanks blank_square),
      row_begun colors cells blanks is.1,
      subst (λ n. ended (row_cells colors cells n) ≡ row_cells colors cells n) (sym one) (ended_in_blanks (map (cell_look colors) cells) (wide - width - 1)),
    )

-- ---- blank rows

blank_look : (colors : ColorOutput) → cell_look colors blank ≡ blank_square
blank_look colors = blank_seen colors ∙ ap (λ s. Whole (32 ∷ []) s) (looks_plain colors)

-- A row of blank cells is a blank row.
blank_cells : (colors : ColorOutput) (width wide : ℕ) → width < wide → row_cells colors (replicate width blank) (wide - width) ≡ replicate wide blank_square
blank_cells colors width wide lt =
    ap (λ l. l ++ replicate (wide - width) blank_square) (map_replicated (cell_look colors) width blank ∙ ap (λ x. replicate width x) (blank_look colors))
    ∙ replicate-append-replicate width (wide - width) blank_square ∙ ap (λ n. replicate n blank_square) (omega (arith, lt))

pub blank_squares : (colors : ColorOutput) (width wide n : ℕ) → width < wide → row_squares colors (blank_rows width n) (wide - width) ≡ replicate n (replicate wide blank_square)
blank_squares colors width wide n lt =
    map_replicated (λ cells. row_cells colors cells (wide - width)) n (replicate width blank) ∙ ap (replicate n) (blank_cells colors width wide lt)

-- ---- several rows

pub squares_append : (colors : ColorOutput) (xs ys : List (List Cell)) (n : ℕ) → row_squares colors (xs ++ ys) n ≡ row_squares colors xs n ++ row_squares colors ys n
squares_append colors xs ys n = map-append (λ cells. row_cells colors cells n) xs ys

pub squares_length : (colors : ColorOutput) (rows : List (List Cell)) (n : ℕ) → length (row_squares colors rows n) ≡ length rows
squares_length colors rows n = length-map rows (λ cells. row_cells colors cells n)
