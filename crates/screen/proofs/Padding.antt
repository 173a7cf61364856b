-- Some rows of cells that are laid out.
use Rattle.std.proofs.Common.{◌≡◌, ℕ, zero, suc, ◌+◌, ◌-◌, ◌*◌, ◌%◌, ◌<◌, ◌≤◌, ◌==◌, Bool, true, false, List, [], ◌++◌, inl, inr, refl, sym, ap, ◌∙◌, subst, append-nil, arith, drop, get_or, length, length-append, min, replicate, take}
use Rattle.std.proofs.Math.Nat.{mul-add-mod_self_right, mul-mod_left}
use Rattle.std.proofs.Math.Seq.{take-append-add, take-length}
use Rattle.std.proofs.lemmas.Bool.{cases_lt}
use Rattle.std.proofs.lemmas.List.{drop_all, get_or-drop, get_or-take, length-drop, length-replicate, length-take-le, take-append-le, take-replicate, take_all}
use Rattle.std.proofs.lemmas.List.Elements.{All-drop, All-take}
use Rattle.screen.specs.Cells.{AreLaidOut, Cell, IsPlaced, StayInRows, blank, is_wide}
use Rattle.screen.specs.Paragraphs.{padded}
use Rattle.screen.proofs.Behind.{laid_below}
use Rattle.screen.proofs.CellRows.{parted}
use Rattle.screen.proofs.Fitting.{blank_laid_out}

-- ---- whole rows

none_laid : (width : ℕ) → AreLaidOut width []
none_laid width = blank_laid_out 0 [] refl width

-- The last cell of a row isn't wide.
row_end_narrow : (width k at : ℕ) (cells : List Cell) → suc at ≡ k * width → StayInRows width cells → at < length cells → is_wide (get_or cells at blank) ≡ false
row_end_narrow width k at cells is stay lt = by_width (is_wide (get_or cells at blank)) refl
  where
    by_width : (b : Bool) → is_wide (get_or cells at blank) ≡ b → b ≡ false
    by_width false e = refl
    by_width true e =
        let place : at + 1 ≡ k * width = omega (arith, is) in
        let last : (at + 1) % width ≡ 0 = ap (λ n. n % width) place ∙ mul-mod_left k width in
        let no : true ≡ false = ap (λ n. n == 0) (sym last) ∙ stay at blank lt e in
        cc

front_stays : (width n : ℕ) (cells : List Cell) → n ≤ length cells → StayInRows width cells → StayInRows width (take n cells)
front_stays width n cells le stay k d below wide =
    let inside : k < n = omega (arith, below, length-take-le n cells le) in
    stay k d (omega (arith, inside, le)) (ap is_wide (sym (get_or-take n cells k d inside)) ∙ wide)

back_stays : (width k : ℕ) (cells : List Cell) → StayInRows width cells → StayInRows width (drop (k * width) cells)
back_stays width k cells stay j d below wide =
    let place : k * width + j + 1 ≡ k * width + (j + 1) = omega arith in
    let column : (k * width + j + 1) % width ≡ (j + 1) % width = ap (λ n. n % width) place ∙ mul-add-mod_self_right k width (j + 1) in
    ap (λ n. n == 0) (sym column)
    ∙ stay (k * width + j) d (omega (arith, below, length-drop (k * width) cells)) (ap is_wide (sym (get_or-drop (k * width) cells j d)) ∙ wide)

split_at : (width k at : ℕ) (cells : List Cell) → suc at ≡ k * width → at < length cells → AreLaidOut width cells
    → AreLaidOut width (take (suc at) cells) × AreLaidOut width (drop (suc at) cells)
split_at width k at cells is lt laid =
    let parts = parted false at cells laid.paired lt (row_end_narrow width k at cells is laid.rows lt) in (
      record {
        placed = All-take IsPlaced (suc at) cells laid.placed;
        paired = parts.0;
        rows = front_stays width (suc at) cells (omega (arith, lt)) laid.rows;
      },
      record {
        placed = All-drop IsPlaced (suc at) cells laid.placed;
        paired = parts.1;
        rows = subst (λ n. StayInRows width (drop n cells)) (sym is) (back_stays width k cells laid.rows);
      },
    )

-- Cells up to the end of a row, and those behind it.
pub laid_split : (width k end : ℕ) (cells : List Cell) → end ≡ k * width → AreLaidOut width cells → AreLaidOut width (take end cells) × AreLaidOut width (drop end cells)
laid_split width k zero cells is laid = (none_laid width, laid)
laid_split width k (suc at) cells is laid =
    elim (cases_lt at (length cells)) [
      | inl lt ↦ split_at width k at cells is lt laid
      | inr le ↦ (
        subst (AreLaidOut width) (sym (take_all (suc at) cells (omega (arith, le)))) laid,
        subst (AreLaidOut width) (sym (drop_all (suc at) cells (omega (arith, le)))) (none_laid width),
      )
    ]

-- ---- so many cells

pub padded_length : (n : ℕ) (cells : List Cell) → length (padded n cells) ≡ n
padded_length n cells = length-take-le n (cells ++ replicate n blank) (omega (arith, length-append cells (replicate n blank), length-replicate n blank))

-- Whole rows of cells, with blank ones behind them.
pub padded_laid : (width height n : ℕ) (cells : List Cell) → n ≡ width * height → AreLaidOut width cells → AreLaidOut width (padded n cells)
padded_laid width height n cells is laid =
    (laid_split width height n (cells ++ replicate n blank) (is ∙ grind arith) (laid_below width n cells laid)).0

-- As many cells as there are, and then blank ones.
pub padded_parts : (n shown : ℕ) (cells : List Cell) → shown ≡ min (length cells) n → take shown cells ++ replicate (n - shown) blank ≡ padded n cells
padded_parts n shown cells is =
    let blanks = replicate n blank in
    elim (cases_lt (length cells) n) [
      | inl lt ↦
          let all : shown ≡ length cells = omega (arith, is, lt) in
          let whole : length cells + (n - length cells) ≡ n = omega (arith, lt) in
          ap (λ k. take k cells ++ replicate (n - k) blank) all ∙ ap (λ l. l ++ replicate (n - length cells) blank) (take-length cells)
          ∙ ap (λ l. cells ++ l) (sym (take-replicate (n - length cells) n blank (omega arith)))
          ∙ sym (take-append-add cells blanks (n - length cells)) ∙ ap (λ k. take k (cells ++ blanks)) whole
      | inr le ↦
          let all : shown ≡ n = omega (arith, is, le) in
          let none : n - n ≡ 0 = omega arith in
          ap (λ k. take k cells ++ replicate (n - k) blank) all ∙ ap (λ k. take n cells ++ replicate k blank) none ∙ append-nil (take n cells)
          ∙ sym (take-append-le n cells blanks le)
    ]

-- ---- cells from a place on

-- Behind the last cell there are none, wherever the place is. `most` is the greatest number that there is.
pub rest_from : (place most limited at count all size : ℕ) (items given : List Cell) → limited ≡ min place most → at ≡ min limited count → count ≡ size → all ≡ size
    → given ≡ items → length given ≡ size → length given ≤ most → take (all - at) (drop at given) ≡ drop place items
rest_from place most limited at count all size items given limit here counted whole same long few =
    take_all (all - at) (drop at given) (omega (arith, length-drop at given, whole, long))
    ∙ elim (cases_lt place (length given)) [
      | inl lt ↦ let there : at ≡ place = omega (arith, limit, here, counted, long, lt, few) in ap (λ k. drop k given) there ∙ ap (drop place) same
      | inr le ↦ drop_all at given (omega (arith, limit, here, counted, long, le, few)) ∙ sym (drop_all place given le) ∙ ap (drop place) same
    ]
