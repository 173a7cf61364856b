-- The rows of a picture.
use Rattle.std.proofs.Common.{◌≡◌, ◌==◌, get_or, ℕ, zero, suc, ◌+◌, ◌-◌, ◌*◌, ◌%◌, ◌<◌, ◌≤◌, Bool, true, false, List, [], ◌∷◌, ◌++◌, refl, sym, ap, ◌∙◌, subst, arith, append_assoc, drop, length, replicate, take}
use Rattle.std.specs.List.{AllByRecursion}
use Rattle.std.proofs.lemmas.List.{drop-append-le, drop-replicate, get_or-drop, get_or-take, length-drop, length-take-le, take-append-drop, take-append-le, take-replicate, take_at, drop-drop, drop_at}
use Rattle.std.proofs.lemmas.List.Elements.{All-drop, All-take}
use Rattle.std.proofs.Math.Nat.{mod_self, mul-add, mul-add-mod_self_right, mul-suc}
use Rattle.std.proofs.Math.Seq.{get_or-append_seam, take-add}
use Rattle.screen.specs.Buffers.{Picture}
use Rattle.screen.specs.Cells.{AreLaidOut, ArePaired, Cell, IsPlaced, StayInRows, blank, is_wide}
use Rattle.screen.specs.Blocks.{blank_rows, picture_rows, cut_rows}
use Rattle.screen.specs.inside.BlockRows.{IsCellRow}

-- Cells up to one that isn't the first of two, and those behind it.
pub parted : (first : Bool) (n : ℕ) (cells : List Cell) → ArePaired first cells → n < length cells → is_wide (get_or cells n blank) ≡ false → ArePaired first (take (suc n) cells) × ArePaired false (drop (suc n) cells)
parted first n [] a lt e = absurd (omega (arith, lt))
parted first zero (c ∷ cells) a lt e = ((a.0, e), subst (λ b. ArePaired b cells) e a.1)
parted first (suc n) (c ∷ cells) a lt e =
    let rest : ArePaired (is_wide c) (take (suc n) cells) × ArePaired false (drop (suc n) cells) = parted (is_wide c) n cells a.1 (omega (arith, lt)) e in
    ((a.0, rest.0), rest.1)

-- No wide character begins in a row's last cell.
last_narrow : (last : ℕ) (cells : List Cell) → StayInRows (suc last) cells → last < length cells → is_wide (get_or cells last blank) ≡ false
last_narrow last cells stay lt = by_width (is_wide (get_or cells last blank)) refl
  where
    by_width : (b : Bool) → is_wide (get_or cells last blank) ≡ b → b ≡ false
    by_width false e = refl
    by_width true e =
        let next : last + 1 ≡ suc last = omega arith in
        let none : (last + 1) % suc last ≡ 0 = ap (λ n. n % suc last) next ∙ mod_self (suc last) in
        let no : true ≡ false = ap (λ k. k == 0) (sym none) ∙ stay last blank lt e in
        cc

rest_stays : (width : ℕ) (cells : List Cell) → StayInRows width cells → StayInRows width (drop width cells)
rest_stays width cells stay k d lt wide =
    let place : width + k + 1 ≡ 1 * width + (k + 1) = omega arith in
    let column : (width + k + 1) % width ≡ (k + 1) % width = ap (λ n. n % width) place ∙ mul-add-mod_self_right 1 width (k + 1) in
    ap (λ n. n == 0) (sym column) ∙ stay (width + k) d (omega (arith, lt, length-drop width cells)) (ap is_wide (sym (get_or-drop width cells k d)) ∙ wide)

-- Rows of at least one cell.
rows_paired : (last n : ℕ) (cells : List Cell) → length cells ≡ suc last * n → ArePaired false cells → StayInRows (suc last) cells → AllByRecursion (IsCellRow (suc last)) (cut_rows (suc last) n cells)
rows_paired last zero cells size paired stay = tt
rows_paired last (suc n) cells size paired stay =
    let next : suc n ≡ n + 1 = omega arith in
    let product : suc last * suc n ≡ suc last * n + suc last = ap (λ k. suc last * k) next ∙ mul-add (suc last) n 1 ∙ (omega arith) in
    let parts : ArePaired false (take (suc last) cells) × ArePaired false (drop (suc last) cells) =
    parted false last cells paired (omega (arith, size, product)) (last_narrow last cells stay (omega (arith, size, product))) in (
      (length-take-le (suc last) cells (omega (arith, size, product)), parts.0),
      rows_paired last n (drop (suc last) cells) (length-drop (suc last) cells ∙ omega (arith, size, product)) parts.1 (rest_stays (suc last) cells stay),
    )

rows_laid : (width n : ℕ) (cells : List Cell) → 0 < width → length cells ≡ width * n → AreLaidOut width cells → AllByRecursion (IsCellRow width) (cut_rows width n cells)
rows_laid zero n cells lt size laid = absurd (omega (arith, lt))
rows_laid (suc last) n cells lt size laid = rows_paired last n cells size laid.paired laid.rows

-- The cells of a buffer are rows in which each wide character has both of its cells.
pub picture_laid : (p : Picture) → 0 < p.width → length p.cells ≡ p.width * p.height → AreLaidOut p.width p.cells → AllByRecursion (IsCellRow p.width) (picture_rows p)
picture_laid p lt size laid = rows_laid p.width p.height p.cells lt size laid

-- The first row of cells that are laid out in rows, and the others.
laid_parts : (last n : ℕ) (cells : List Cell) → length cells ≡ suc last * suc n → AreLaidOut (suc last) cells → AreLaidOut (suc last) (take (suc last) cells) × AreLaidOut (suc last) (drop (suc last) cells)
laid_parts last n cells size laid =
    let lt : last < length cells = omega (arith, size, mul-suc (suc last) n) in
    let parts : ArePaired false (take (suc last) cells) × ArePaired false (drop (suc last) cells) = parted false last cells laid.paired lt (last_narrow last cells laid.rows lt) in (
      record {
        placed = All-take IsPlaced (suc last) cells laid.placed;
        paired = parts.0;
        rows = λ k d below wide.
            let inside : k < suc last = omega (arith, below, length-take-le (suc last) cells (omega (arith, lt))) in
            laid.rows k d (omega (arith, inside, lt)) (ap is_wide (sym (get_or-take (suc last) cells k d inside)) ∙ wide);
      },
      record {
        placed = All-drop IsPlaced (suc last) cells laid.placed;
        paired = parts.1;
        rows = rest_stays (suc last) cells laid.rows;
      },
    )

laid_from : (last r n : ℕ) (cells : List Cell) → length cells ≡ suc last * (r + suc n) → AreLaidOut (suc last) cells → AreLaidOut (suc last) (take (suc last) (drop (suc last * r) cells))
laid_from last zero n cells size laid =
    let more : zero + suc n ≡ suc n = omega arith in
    let none : suc last * zero ≡ 0 = omega arith in
    subst (λ k. AreLaidOut (suc last) (take (suc last) (drop k cells))) (sym none) (laid_parts last n cells (size ∙ ap (λ k. suc last * k) more) laid).0
laid_from last (suc r) n cells size laid =
    let more : suc r + suc n ≡ suc (r + suc n) = omega arith in
    let whole : length cells ≡ suc last * suc (r + suc n) = size ∙ ap (λ k. suc last * k) more in
    let rest : length (drop (suc last) cells) ≡ suc last * (r + suc n) = length-drop (suc last) cells ∙ omega (arith, whole, mul-suc (suc last) (r + suc n)) in
    let place : suc last * suc r ≡ suc last + suc last * r = mul-suc (suc last) r ∙ (omega arith) in
    subst (λ l. AreLaidOut (suc last) (take (suc last) l)) (drop-drop (suc last * r) (suc last) cells ∙ ap (λ k. drop k cells) (sym place))
    (laid_from last r n (drop (suc last) cells) rest (laid_parts last (r + suc n) cells whole laid).1)

-- Each row of cells that are laid out is laid out.
pub row_laid : (width r n : ℕ) (cells : List Cell) → 0 < width → length cells ≡ width * (r + suc n) → AreLaidOut width cells → AreLaidOut width (take width (drop (width * r) cells))
row_laid zero r n cells lt size laid = absurd (omega (arith, lt))
row_laid (suc last) r n cells lt size laid = laid_from last r n cells size laid

-- ---- rows one by one

pub rows_count : (width n : ℕ) (cells : List Cell) → length (cut_rows width n cells) ≡ n
rows_count width zero cells = refl
rows_count width (suc n) cells = ap suc (rows_count width n (drop width cells))

-- Cells that are some rows, a row, and others.
pub rows_mixed : (width r n : ℕ) (front row back : List Cell) → width * r ≤ length front → length row ≡ width
    → cut_rows width (r + suc n) (take (width * r) front ++ (row ++ back)) ≡ cut_rows width r front ++ row ∷ cut_rows width n back
rows_mixed width zero n front row back le size =
    let none : width * zero ≡ 0 = omega arith in
    let more : zero + suc n ≡ suc n = omega arith in
    ap (λ k. cut_rows width (zero + suc n) (take k front ++ (row ++ back))) none ∙ ap (λ k. cut_rows width k (row ++ back)) more
    ∙ ap (λ l. l ∷ cut_rows width n (drop width (row ++ back))) (take_at row back width size) ∙ ap (λ l. row ∷ cut_rows width n l) (drop_at row back width size)
rows_mixed width (suc r) n front row back le size =
    let place : width * suc r ≡ width + width * r = mul-suc width r ∙ (omega arith) in
    let more : suc r + suc n ≡ suc (r + suc n) = omega arith in
    let first = take width front in
    let later = drop width front in
    let rest = take (width * r) later ++ (row ++ back) in
    let long : length first ≡ width = length-take-le width front (omega (arith, le, place)) in
    let cells : take (width * suc r) front ++ (row ++ back) ≡ first ++ rest =
    ap (λ k. take k front ++ (row ++ back)) place ∙ ap (λ l. l ++ (row ++ back)) (take-add width (width * r) front) ∙ append_assoc first (take (width * r) later) (row ++ back) in
    ap (λ l. cut_rows width (suc r + suc n) l) cells ∙ ap (λ k. cut_rows width k (first ++ rest)) more
    ∙ ap (λ l. l ∷ cut_rows width (r + suc n) (drop width (first ++ rest))) (take_at first rest width long) ∙ ap (λ l. first ∷ cut_rows width (r + suc n) l) (drop_at first rest width long)
    ∙ ap (λ l. first ∷ l) (rows_mixed width r n later row back (omega (arith, le, place, length-drop width front)) size)

-- Cells up to a row, the row, and the cells behind it.
pub row_split : (width r : ℕ) (cells : List Cell) → cells ≡ take (width * r) cells ++ (take width (drop (width * r) cells) ++ drop (width * r + width) cells)
row_split width r cells =
    sym (take-append-drop (width * r) cells)
    ∙ ap (λ l. take (width * r) cells ++ l) (sym (take-append-drop width (drop (width * r) cells)) ∙ ap (λ l. take width (drop (width * r) cells) ++ l) (drop-drop width (width * r) cells))

pub row_length : (width r n : ℕ) (cells : List Cell) → length cells ≡ width * (r + suc n) → (width * r ≤ length cells) × (length (take width (drop (width * r) cells)) ≡ width)
row_length width r n cells size =
    let whole : width * (r + suc n) ≡ width * r + (width * n + width) = mul-add width r (suc n) ∙ ap (λ k. width * r + k) (mul-suc width n) in
    (omega (arith, size, whole), length-take-le width (drop (width * r) cells) (omega (arith, size, whole, length-drop (width * r) cells)))

-- A row of cells is the one at its place.
pub row_found : (width r n : ℕ) (cells : List Cell) → length cells ≡ width * (r + suc n) → get_or (cut_rows width (r + suc n) cells) r [] ≡ take width (drop (width * r) cells)
row_found width r n cells size =
    let front = cut_rows width r cells in
    let row = take width (drop (width * r) cells) in
    let fits = row_length width r n cells size in
    let whole : cut_rows width (r + suc n) cells ≡ front ++ row ∷ cut_rows width n (drop (width * r + width) cells) =
    ap (cut_rows width (r + suc n)) (row_split width r cells) ∙ rows_mixed width r n cells row (drop (width * r + width) cells) fits.0 fits.1 in
    ap (λ l. get_or l r []) whole ∙ ap (λ k. get_or (front ++ row ∷ cut_rows width n (drop (width * r + width) cells)) k []) (sym (rows_count width r cells)) ∙ get_or-append_seam front row _ []

-- ---- blank rows below others

no_cells : (cells : List Cell) → length cells ≡ 0 → cells ≡ []
no_cells [] e = refl
no_cells (c ∷ cells) e = absurd (omega (arith, e))

pub rows_blank : (width n : ℕ) → cut_rows width n (replicate (width * n) blank) ≡ blank_rows width n
rows_blank width zero = refl
rows_blank width (suc n) =
    let more : width * suc n ≡ width + width * n = mul-suc width n ∙ (omega arith) in
    let rest : width + width * n - width ≡ width * n = omega arith in
    ap (λ k. cut_rows width (suc n) (replicate k blank)) more
    ∙ ap (λ l. l ∷ cut_rows width n (drop width (replicate (width + width * n) blank))) (take-replicate width (width + width * n) blank (omega arith))
    ∙ ap (λ l. replicate width blank ∷ cut_rows width n l) (drop-replicate width (width + width * n) blank ∙ ap (λ k. replicate k blank) rest)
    ∙ ap (λ l. replicate width blank ∷ l) (rows_blank width n)

pub rows_below : (width h n : ℕ) (cells : List Cell) → length cells ≡ width * h → cut_rows width (h + n) (cells ++ replicate (width * n) blank) ≡ cut_rows width h cells ++ blank_rows width n
rows_below width zero n cells size =
    let none : cells ≡ [] = no_cells cells (size ∙ (omega arith)) in
    let all : zero + n ≡ n = omega arith in
    ap (λ l. cut_rows width (zero + n) (l ++ replicate (width * n) blank)) none ∙ ap (λ k. cut_rows width k (replicate (width * n) blank)) all ∙ rows_blank width n
rows_below width (suc h) n cells size =
    let more : suc h + n ≡ suc (h + n) = omega arith in
    let whole : width * suc h ≡ width + width * h = mul-suc width h ∙ (omega arith) in
    let le : width ≤ length cells = omega (arith, size, whole) in
    let blanks = replicate (width * n) blank in
    ap (λ k. cut_rows width k (cells ++ blanks)) more
    ∙ ap (λ l. l ∷ cut_rows width (h + n) (drop width (cells ++ blanks))) (take-append-le width cells blanks le)
    ∙ ap (λ l. take width cells ∷ cut_rows width (h + n) l) (drop-append-le width cells blanks le)
    ∙ ap (λ l. take width cells ∷ l) (rows_below width h n (drop width cells) (length-drop width cells ∙ omega (arith, size, whole)))
