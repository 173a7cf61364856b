-- A block by its cells.
use Rattle.std.proofs.Common.{◌≡◌, ℕ, zero, suc, ◌+◌, ◌-◌, ◌*◌, ◌<◌, ◌≤◌, ◌^◌, ◌==◌, false, cond, List, [], ◌∷◌, ◌++◌, Option, Some, refl, sym, ap, ◌∙◌, subst, append-nil, arith, if◌then◌else◌, drop, length, max, replicate, take}
use Rattle.std.proofs.lemmas.Bool.Decides.{nat_tests}
use Rattle.std.proofs.lemmas.List.{drop_all, take_all}
use Rattle.std.proofs.Math.Nat.{max-eq_left, mul-add}
use Rattle.std.specs.List.{AllByRecursion}
use Rattle.crossterm_command.specs.Tokens.{Token}
use Rattle.crossterm_command.specs.declared.color_output.ColorOutput.{ColorOutput}
use Rattle.screen.specs.Blocks.{BlockView, FitsBlock, IsBlockFrame, TurnsBlock, Visits, beginning, begun_column, blank_rows, grown_column, grown_row, growth, picture_rows, cut_rows, without_rows}
use Rattle.screen.specs.Buffers.{Picture}
use Rattle.screen.specs.Cells.{AreLaidOut, Cell, blank}
use Rattle.screen.specs.inside.BlockRows.{IsCellRow, IsInRows}
use Rattle.screen.specs.inside.Blocks.{PlannedBlock}
use Rattle.screen.proofs.BlockFrames.{turns_block}
use Rattle.screen.proofs.CellRows.{picture_laid, rows_below, rows_count}

-- The cells that were shown, and blank ones for the rows that are added.
pub more_cells : (width height w h count : ℕ) (cells new : List Cell) → w ≡ width → height ≤ h → length cells ≡ width * height → count ≡ w * h
    → new ≡ take count cells ++ replicate (count - length cells) blank → new ≡ cells ++ replicate (width * (h - height)) blank
more_cells width height w h count cells new same le size is made =
    let rest : h ≡ height + (h - height) = omega (arith, le) in
    let whole : width * h ≡ width * height + width * (h - height) = ap (λ k. width * k) rest ∙ mul-add width height (h - height) in
    let all : count ≡ width * h = is ∙ ap (λ k. k * h) same in
    let more : count - length cells ≡ width * (h - height) = omega (arith, all, whole, size) in
    made ∙ ap (λ l. l ++ replicate (count - length cells) blank) (take_all count cells (omega (arith, all, whole, size)))
    ∙ ap (λ n. cells ++ replicate n blank) more

-- ---- the view

-- A block of so many rows of cells.
abbrev pub block_of : ℕ → ℕ → ColorOutput → List Cell → ℕ → Option ℕ → ℕ → BlockView
block_of width height colors cells row column room = record { width = width; colors = colors; rows = cut_rows width height cells; row = row; column = column; room = room }

pub fits_block : (width height : ℕ) (colors : ColorOutput) (cells : List Cell) (row : ℕ) (column : Option ℕ) (room : ℕ) (s : BlockView) (p : Picture) → block_of width height colors cells row column room ≡ s → p.width ≡ width → height ≤ p.height
    → FitsBlock s p
fits_block width height colors cells row column room s p is wide le =
    subst (λ t. FitsBlock t p) is (wide, omega (arith, le, rows_count width height cells))

pub block_fits : (width height : ℕ) (colors : ColorOutput) (cells : List Cell) (row : ℕ) (column : Option ℕ) (room : ℕ) (s : BlockView) (p : Picture) → block_of width height colors cells row column room ≡ s → FitsBlock s p
    → (p.width ≡ width) × (height ≤ p.height)
block_fits width height colors cells row column room s p is fits =
    let here : FitsBlock (block_of width height colors cells row column room) p = subst (λ t. FitsBlock t p) (sym is) fits in
    (here.0, omega (arith, here.1, rows_count width height cells))

-- Other memory, and the same cells.
pub same_but_room : (width height : ℕ) (colors : ColorOutput) (cells new : List Cell) (row : ℕ) (column : Option ℕ) (room other : ℕ) (s : BlockView) → new ≡ cells → block_of width height colors cells row column room ≡ s
    → block_of width height colors new row column other ≡ record s { room = other }
same_but_room width height colors cells new row column room other s same is =
    let view : block_of width height colors new row column other ≡ block_of width height colors cells row column other = ap (λ l. block_of width height colors l row column other) same in
    let rest : block_of width height colors cells row column other ≡ record s { room = other } = subst (λ t. block_of width height colors cells row column other ≡ record t { room = other }) is refl in
    view ∙ rest

-- A block that is forgotten.
pub forgotten_as : (width height : ℕ) (colors : ColorOutput) (cells : List Cell) (row : ℕ) (column : Option ℕ) (room other : ℕ) (s : BlockView) → block_of width height colors cells row column room ≡ s
    → record (without_rows (block_of width height colors cells row column room)) { room = other } ≡ record (without_rows s) { room = other }
forgotten_as width height colors cells row column room other s is =
    subst (λ t. record (without_rows (block_of width height colors cells row column room)) { room = other } ≡ record (without_rows t) { room = other }) is refl

-- ---- the rows that are known

abbrev known_of : ℕ → ℕ → List Cell → List (List Cell)
known_of width height cells = if length (cut_rows width height cells) == 0 then blank_rows width 1 else cut_rows width height cells

not_zero : (n : ℕ) → (suc n == 0) ≡ false
not_zero n = grind (arith, nat_tests)

at_least_one : (n : ℕ) → suc n ≡ max (suc n) 1
at_least_one n = sym (max-eq_left (omega arith))

known_least : (width : ℕ) (rows : List (List Cell)) → length (if length rows == 0 then blank_rows width 1 else rows) ≡ max (length rows) 1
known_least width [] = refl
known_least width (row ∷ rows) = ap (λ b. length (cond b (blank_rows width 1) (row ∷ rows))) (not_zero (length rows)) ∙ at_least_one (length rows)

known_count : (width height : ℕ) (cells : List Cell) → length (known_of width height cells) ≡ max height 1
known_count width height cells = known_least width (cut_rows width height cells) ∙ ap (λ n. max n 1) (rows_count width height cells)

-- The rows before the first visit: those that are known, and blank ones.
grown_rows : (width height most : ℕ) (cells : List Cell) → length cells ≡ width * height → height ≤ most → 0 < most
    → cut_rows width most (cells ++ replicate (width * (most - height)) blank) ≡ known_of width height cells ++ blank_rows width (most - length (known_of width height cells))
grown_rows width zero most cells size le lt =
    let n = most - 1 in
    let all : most - zero ≡ suc n = omega (arith, lt) in
    let whole : most ≡ zero + suc n = omega (arith, lt) in
    ap (λ k. cut_rows width most (cells ++ replicate (width * k) blank)) all ∙ ap (λ k. cut_rows width k (cells ++ replicate (width * suc n) blank)) whole ∙ rows_below width zero (suc n) cells size
grown_rows width (suc k) most cells size le lt =
    let whole : most ≡ suc k + (most - suc k) = omega (arith, le) in
    let rows = cut_rows width (suc k) cells in
    ap (λ n. cut_rows width n (cells ++ replicate (width * (most - suc k)) blank)) whole ∙ rows_below width (suc k) (most - suc k) cells size
    ∙ ap (λ n. rows ++ blank_rows width (most - n)) (sym (rows_count width (suc k) cells))
    ∙ ap (λ b. cond b (blank_rows width 1) rows ++ blank_rows width (most - length (cond b (blank_rows width 1) rows))) (sym (not_zero (length (cut_rows width k (drop width cells)))))

-- ---- the frame

-- What is planned for a block's cells is a frame of the block.
block_framed : (width height : ℕ) (colors : ColorOutput) (cells before after : List Cell) (row : ℕ) (column : Option ℕ) (room : ℕ) (s : BlockView) (p : Picture) (end_column end_row : ℕ) (ts : List Token)
    → block_of width height colors cells row column room ≡ s → p.width ≡ width → height ≤ p.height → length cells ≡ width * height → before ≡ cells ++ replicate (width * (p.height - height)) blank → after ≡ p.cells
    → length p.cells ≡ p.width * p.height → AreLaidOut p.width p.cells → IsInRows width height row column → end_column < p.width → end_row < p.height → p.width < 2 ^ 32 → p.height < 2 ^ 32
    → PlannedBlock width p.height height colors column row before after end_column end_row ts → IsBlockFrame s p end_column end_row ts
block_framed width height colors cells before after row column room s p end_column end_row ts is wide le size held wanted count laid placed beside within narrow low plan =
    let here : BlockView = block_of width height colors cells row column room in
    let known = known_of width height cells in
    let rows : length here.rows ≡ height = rows_count width height cells in
    let least : length known ≡ max height 1 = known_count width height cells in
    let n = p.height - length known in
    let more : p.height - max height 1 ≡ n = ap (λ k. p.height - k) (sym least) in
    let visits : Visits width colors (picture_rows p) end_column end_row (known ++ blank_rows width n) (grown_row (length known) row n) (grown_column (begun_column column) n) plan.visiting =
    subst (λ k. Visits width colors (cut_rows k p.height p.cells) end_column end_row (known ++ blank_rows width n) (grown_row (length known) row n) (grown_column (begun_column column) n) plan.visiting) (sym wide)
    (subst (λ l. Visits width colors (cut_rows width p.height l) end_column end_row (known ++ blank_rows width n) (grown_row (length known) row n) (grown_column (begun_column column) n) plan.visiting) wanted
    (subst (λ l. Visits width colors (cut_rows width p.height after) end_column end_row l (grown_row (length known) row n) (grown_column (begun_column column) n) plan.visiting)
    (ap (cut_rows width p.height) held ∙ grown_rows width height p.height cells size le (omega (arith, within)))
    (subst (λ k. Visits width colors (cut_rows width p.height after) end_column end_row (cut_rows width p.height before) (grown_row k row (p.height - k)) (grown_column (begun_column column) (p.height - k)) plan.visiting) (sym least) plan.visits))) in
    let parts : ts ≡ beginning (length here.rows) column ++ (growth (length known) row n ++ plan.visiting) =
    plan.parts ∙ ap (λ k. beginning k column ++ (growth (max height 1) row (p.height - max height 1) ++ plan.visiting)) (sym rows)
    ∙ ap (λ k. beginning (length here.rows) column ++ (growth k row (p.height - k) ++ plan.visiting)) (sym least) in
    let inside : IsInRows width (length here.rows) row column = subst (λ k. IsInRows width k row column) (sym rows) placed in
    let fits : FitsBlock here p = fits_block width height colors cells row column room here p refl wide le in
    let laid_rows = subst (λ k. AllByRecursion (IsCellRow k) (picture_rows p)) wide (picture_laid p (omega (arith, beside)) count laid) in
    subst (λ t. IsBlockFrame t p end_column end_row ts) is
    (record {
      turns = subst (λ l. TurnsBlock here p end_column end_row l) (sym parts) (turns_block here p end_column end_row plan.visiting fits.0 fits.1 laid_rows inside beside within narrow low visits);
      visiting = plan.visiting;
      parts = parts;
      visits = visits;
    })

-- The same, by what a call knows of a buffer.
pub block_written : (width height w h count : ℕ) (colors : ColorOutput) (cells more before after : List Cell) (row : ℕ) (column : Option ℕ) (room : ℕ) (s : BlockView) (p : Picture) (end_column end_row : ℕ) (ts : List Token)
    → block_of width height colors cells row column room ≡ s → w ≡ width → height ≤ h → w ≡ p.width → h ≡ p.height → length cells ≡ width * height → count ≡ w * h → more ≡ take count cells ++ replicate (count - length cells) blank → before ≡ more
    → after ≡ p.cells → length p.cells ≡ p.width * p.height → AreLaidOut p.width p.cells → IsInRows width height row column → end_column < w → end_row < h → w < 2 ^ 16 → h < 2 ^ 16
    → PlannedBlock w h height colors column row before after end_column end_row ts → IsBlockFrame s p end_column end_row ts
block_written width height w h count colors cells more before after row column room s p end_column end_row ts is same le wide high size number made held wanted count_of laid placed beside within narrow low plan =
    let held_as : before ≡ cells ++ replicate (width * (p.height - height)) blank =
    held ∙ more_cells width height w h count cells more same le size number made ∙ ap (λ n. cells ++ replicate (width * (n - height)) blank) high in
    let plan_as : PlannedBlock width p.height height colors column row before after end_column end_row ts =
    subst (λ n. PlannedBlock width n height colors column row before after end_column end_row ts) high (subst (λ n. PlannedBlock n h height colors column row before after end_column end_row ts) same plan) in
    block_framed width height colors cells before after row column room s p end_column end_row ts is (sym wide ∙ same) (omega (arith, le, high)) size held_as wanted count_of laid placed
    (omega (arith, beside, wide)) (omega (arith, within, high)) (omega (arith, narrow, wide)) (omega (arith, low, high)) plan_as

-- ---- what is held after a frame

-- The cells that a buffer has are shown.
left_cells : (len : ℕ) (new items wanted : List Cell) → new ≡ wanted → length wanted ≡ len → length items ≡ len → take len (new ++ drop (length new) items) ≡ wanted
left_cells len new items wanted is size long =
    let none : drop (length new) items ≡ [] = drop_all (length new) items (omega (arith, ap length is, size, long)) in
    ap (λ l. take len (new ++ l)) none ∙ ap (take len) (append-nil new) ∙ take_all len new (omega (arith, ap length is, size)) ∙ is

-- The cursor is in its row and column.
placed_in : (width height row column : ℕ) → row < height → column < width → IsInRows width height row (Some column)
placed_in width zero row column below beside = absurd (omega (arith, below))
placed_in width (suc n) row column below beside = (below, beside)

-- A block that was drawn has the buffer's cells, and its cursor is in one of their rows.
pub held_after : (width w h len count column row : ℕ) (new items shown before : List Cell) (p : Picture) → w ≡ width → w ≡ p.width → h ≡ p.height → count ≡ w * h → length items ≡ count → length before ≡ len → before ≡ items → new ≡ shown → shown ≡ p.cells
    → length p.cells ≡ p.width * p.height → AreLaidOut p.width p.cells → column < w → row < h
    → (length (take len (new ++ drop (length new) items)) ≡ width * h) × AreLaidOut width (take len (new ++ drop (length new) items)) × IsInRows width h row (Some column)
held_after width w h len count column row new items shown before p same wide high number long counted held drawn wanted size laid beside below =
    let wide_as : p.width ≡ width = sym wide ∙ same in
    let cells : length p.cells ≡ width * h = size ∙ ap (λ n. n * p.height) wide_as ∙ ap (λ n. width * n) (sym high) in
    let whole : length items ≡ length p.cells = long ∙ number ∙ ap (λ n. n * h) same ∙ sym cells in
    let all : len ≡ length items = sym counted ∙ ap length held in
    let left : take len (new ++ drop (length new) items) ≡ p.cells = left_cells len new items p.cells (drawn ∙ wanted) (sym whole ∙ sym all) (sym all) in (
      ap length left ∙ cells,
      subst (AreLaidOut width) (sym left) (subst (λ k. AreLaidOut k p.cells) wide_as laid),
      placed_in width h row column below (omega (arith, beside, same)),
    )
