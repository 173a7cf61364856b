-- Cells behind others that are laid out.
use Rattle.std.proofs.Common.{◌≡◌, ℕ, zero, suc, ◌+◌, ◌*◌, ◌/◌, ◌%◌, ◌<◌, ◌≤◌, true, false, List, ◌++◌, refl, sym, ap, ◌∙◌, subst, arith, length, length-append, replicate}
use Rattle.std.proofs.Math.Nat.{mod-lt}
use Rattle.std.proofs.lemmas.List.{length-replicate}
use Rattle.std.proofs.lemmas.List.Elements.{All-append}
use Rattle.std.proofs.lemmas.Nat.{div-add-mod'}
use Rattle.crossterm_style.specs.declared.content_style.ContentStyle.{ContentStyle}
use Rattle.screen.specs.Cells.{AreLaidOut, Cell, FitsCell, IsPlaced, blank}
use Rattle.screen.specs.Overwriting.{cells_with}
use Rattle.screen.specs.Paragraphs.{columns_left}
use Rattle.screen.specs.Texts.{part_columns}
use Rattle.screen.proofs.Fitting.{blank_laid_out}
use Rattle.screen.proofs.Laying.{StayFrom, from_rows, paired_joined, rows_from, stay_joined}
use Rattle.screen.proofs.Squares.{space_is_narrow}
use Rattle.screen.proofs.Taking.{with_paired, with_placed, with_stay}

-- ---- blank cells

blank_stays : (width at n : ℕ) → StayFrom width at (replicate n blank)
blank_stays width at zero = tt
blank_stays width at (suc n) = (λ wide. let no : true ≡ false = sym wide ∙ space_is_narrow in cc, blank_stays width (at + 1) n)

-- Blank cells behind others.
pub laid_below : (width n : ℕ) (cells : List Cell) → AreLaidOut width cells → AreLaidOut width (cells ++ replicate n blank)
laid_below width n cells laid =
    let blanks = replicate n blank in
    let empty = blank_laid_out n blanks refl width in
    record {
      placed = All-append IsPlaced cells blanks laid.placed empty.placed;
      paired = paired_joined false cells blanks laid.paired empty.paired;
      rows = from_rows width (cells ++ blanks) (stay_joined width 0 cells blanks (rows_from width cells laid.rows) (blank_stays width (0 + length cells) n));
    }

-- ---- a character

-- A character behind cells that end in this row before this column.
laid_at : (s : ContentStyle) (p : List ℕ) (width row column : ℕ) (cells : List Cell) → length cells ≡ row * width + column → column + part_columns p ≤ width
    → FitsCell p → AreLaidOut width cells → AreLaidOut width (cells ++ cells_with s p)
laid_at s p width row column cells size room fits laid =
    let others = cells_with s p in
    let place : row * width + column ≡ 0 + length cells = omega (arith, size) in
    record {
      placed = All-append IsPlaced cells others laid.placed (with_placed s p fits);
      paired = paired_joined false cells others laid.paired (with_paired s p fits);
      rows = from_rows width (cells ++ others) (stay_joined width 0 cells others (rows_from width cells laid.rows)
          (subst (λ k. StayFrom width k others) place (with_stay s p width row column room)));
    }

-- A character behind cells whose last row has room for it.
pub laid_in_row : (s : ContentStyle) (p : List ℕ) (width : ℕ) (cells : List Cell) → 0 < width → part_columns p ≤ columns_left width (length cells)
    → FitsCell p → AreLaidOut width cells → AreLaidOut width (cells ++ cells_with s p)
laid_in_row s p width cells lt room fits laid =
    let n = length cells in
    laid_at s p width (n / width) (n % width) cells (sym (div-add-mod' n width)) (omega (arith, room, mod-lt n lt)) fits laid

-- A character behind cells whose last row was filled with blanks.
pub laid_in_next : (s : ContentStyle) (p : List ℕ) (width left : ℕ) (old cells : List Cell) → left ≡ columns_left width (length old) → cells ≡ old ++ replicate left blank → 0 < width → part_columns p ≤ width
    → FitsCell p → AreLaidOut width old → AreLaidOut width (cells ++ cells_with s p)
laid_in_next s p width left old cells rest filled lt room fits laid =
    let n = length old in
    let row : (n / width + 1) * width ≡ n / width * width + width = grind arith in
    let size : length cells ≡ (n / width + 1) * width + 0 =
    ap length filled ∙ length-append old (replicate left blank) ∙ omega (arith, length-replicate left blank, rest, div-add-mod' n width, mod-lt n lt, row) in
    laid_at s p width (n / width + 1) 0 cells size (omega (arith, room)) fits (subst (AreLaidOut width) (sym filled) (laid_below width left old laid))
