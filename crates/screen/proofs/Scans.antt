-- The way over the cells.
use Rattle.std.proofs.Common.{◌≡◌, ℕ, ◌+◌, ◌-◌, ◌*◌, ◌<◌, ◌≤◌, ◌^◌, List, [], ◌∷◌, ◌++◌, Option, Some, None, Bool, true, false, refl, sym, ap, ◌∙◌, subst, arith, map, replicate, length, take, drop, get_or, append_assoc, append-nil, inl, inr}
use Rattle.std.specs.List.{AllByRecursion}
use Rattle.std.proofs.lemmas.List.{drop_all, length-append, length-drop, length-map, length-replicate, length-take-le, take_all}
use Rattle.crossterm_command.specs.declared.color_output.ColorOutput.{ColorOutput}
use Rattle.crossterm_command.proofs.Readings.{all_joined}
use Rattle.crossterm_style.specs.declared.content_style.ContentStyle.{ContentStyle}
use Rattle.crossterm_style.specs.Looks.{plain}
use Rattle.crossterm_style.specs.Styles.{no_style}
use Rattle.screen.specs.declared.settings.Setting.{Setting}
use Rattle.screen.specs.declared.settings.Setting.TheVariants as setting
use Rattle.screen.specs.declared.starts.Start.{Start}
use Rattle.screen.specs.declared.starts.Start.TheVariants as start
use Rattle.screen.specs.declared.strokes.Stroke.{Stroke}
use Rattle.screen.specs.declared.strokes.Stroke.TheVariants as stroke
use Rattle.screen.specs.Cells.{ArePaired, Cell, FitsCell, IsPlaced, blank, is_covered, is_wide, last_place, look, cell_look, shown_text}
use Rattle.screen.specs.Drawings.{characters_of}
use Rattle.screen.specs.Updates.{HasToBePrinted}
use Rattle.screen.specs.Grids.{Grid, Square, begun, blank_square, is_last, overwritten, right_of, run}
use Rattle.screen.specs.Grids.Square.{Whole}
use Rattle.screen.specs.inside.Scans.{Counts, CountsAll, IsSized, ReachesPlace, Sparing, Visited, known_cursor, known_style, rest_from}
use Rattle.screen.specs.inside.Settings.{HasByteColors, Sets}
use Rattle.screen.specs.inside.Strokes.{AreFitting, IsFitting, cell_strokes, first_strokes, tokens, tokens_of}
use Rattle.screen.proofs.Counts.{cell_prints, first_prints, other_at, same_at, strokes_printed}
use Rattle.screen.proofs.Runs.{cell_painted, looks_plain, painted, plain_set, run_then, runs_then}
use Rattle.screen.proofs.Squares.{At, at_place, blank_seen, grown, opened, paired_next, rest_length, rest_covered, rest_kept, rest_painted, rest_same, squares}

-- ---- the beginning

erased_cells : (colors : ColorOutput) (xs : List Square) → map (λ c. blank_square) xs ≡ map (cell_look colors) (replicate (length xs) blank)
erased_cells colors [] = refl
erased_cells colors (x ∷ xs) =
    let square : blank_square ≡ cell_look colors blank = ap (λ s. Whole (32 ∷ []) s) (sym (looks_plain colors)) ∙ sym (blank_seen colors) in
    ap (λ l. blank_square ∷ l) (erased_cells colors xs) ∙ ap (λ q. q ∷ map (cell_look colors) (replicate (length xs) blank)) square

pub within_length : (known : Start) (width height : ℕ) (before : List Cell) → IsSized known width height before → length before ≡ width * height
within_length start.Nothing width height before w = ap length w ∙ length-replicate (width * height) blank
within_length start.Cells width height before w = w
within_length (start.All at) width height before w = w

pub starts : (known : Start) (width height : ℕ) (before after : List Cell) → IsSized known width height before
    → ArePaired false before → ArePaired false after → ReachesPlace known width height before after 0 (known_cursor known) (known_style known) (first_strokes known)
starts start.Cells width height before after w b a =
    (λ colors g s. (record g { printed = None }, refl, record { size = s.0; seen = tt; cells = s.1 ∙ sym (rest_same colors false after before a b); place = λ n y. cc; set = λ t y. cc }))
starts start.Nothing width height before after w b a =
    (λ colors g s.
    let g1 : Grid = record g { style = plain; printed = None } in
    let h : Grid = record g1 { cells = map (λ c. blank_square) g.cells } in
    let ran : run (tokens_of colors (first_strokes start.Nothing)) g ≡ Some h =
    run_then (tokens colors (stroke.Style no_style)) (tokens_of colors (stroke.Erase ∷ [])) g g1 (plain_set colors g) in
    let cells : h.cells ≡ map (cell_look colors) before = erased_cells colors g.cells ∙ ap (λ n. map (cell_look colors) (replicate n blank)) s.2 ∙ ap (map (cell_look colors)) (sym w) in
    (h, ran, record { size = (s.0, s.1, length-map g.cells (λ c. blank_square) ∙ s.2); seen = tt; cells = cells ∙ sym (rest_same colors false after before a b); place = λ n y. cc; set = λ t y. cc }))
starts (start.All at) width height before after w b a =
    (λ colors g s. (
      g,
      refl,
      record {
        size = s.0;
        seen = s.3;
        cells = s.1 ∙ sym (rest_same colors false after before a b);
        place = λ n y. s.2 ∙ y;
        set = λ t y. s.4 ∙ sym (looks_plain colors) ∙ ap (λ o. elim o [ None ↦ look colors no_style | Some u ↦ look colors u ]) y;
      },
    ))

pub starts_counted : (known : Start) (before after : List Cell) → Counts before after 0 0 (first_strokes known)
starts_counted known before after = λ colors. (0, refl, first_prints colors known)

pub starts_fitting : (known : Start) → AreFitting known (first_strokes known)
starts_fitting known = ([], sym (append-nil (first_strokes known)), tt)

-- ---- a cell

-- The grid's cells before the place `k` is visited.
abbrev pub stage : ColorOutput → List Cell → List Cell → ℕ → List Square
stage colors before after k = take k (map (cell_look colors) after) ++ rest_from (drop k after) (map (cell_look colors) (drop k before))

-- The cells of the next stage, if the cell isn't written.
stage_kept : (colors : ColorOutput) (before after : List Cell) (k : ℕ) (b c : Cell) → k < length before → k < length after → get_or before k b ≡ b → get_or after k c ≡ c
    → (covered : Bool) → is_covered c ≡ covered → (covered ≡ false → b ≡ c) → At colors before k → At colors after k → stage colors before after k ≡ stage colors before after (k + 1)
stage_kept colors before after k b c lb la eb ec covered cv same ab aa =
    let front = take k (map (cell_look colors) after) in
    let later = map (cell_look colors) (drop (k + 1) before) in
    let opens : stage colors before after k ≡ front ++ rest_from (c ∷ drop (k + 1) after) (cell_look colors b ∷ later) =
    ap (λ l. front ++ rest_from l (map (cell_look colors) (drop k before))) (opened after k c la ec)
    ∙ ap (λ l. front ++ rest_from (c ∷ drop (k + 1) after) (map (cell_look colors) l)) (opened before k b lb eb) in
    let closes : front ++ (cell_look colors c ∷ rest_from (drop (k + 1) after) later) ≡ stage colors before after (k + 1) =
    sym (append_assoc front (cell_look colors c ∷ []) (rest_from (drop (k + 1) after) later)) ∙ ap (λ l. l ++ rest_from (drop (k + 1) after) later) (sym (grown colors after k c la ec)) in
    let pairs : ArePaired (is_wide c) (drop (k + 1) after) = (paired_next colors after k c la ec aa).1 in
    elim covered as (λ v. is_covered c ≡ v → (v ≡ false → b ≡ c) → stage colors before after k ≡ stage colors before after (k + 1)) [
      | true ↦ λ e d. opens ∙ ap (λ l. front ++ l) (rest_covered colors c (drop (k + 1) after) (cell_look colors b ∷ later) e pairs) ∙ closes
      | false ↦ λ e d.
          let old : ArePaired (is_wide c) (drop (k + 1) before) = subst (λ x. ArePaired (is_wide x) (drop (k + 1) before)) (d refl) (paired_next colors before k b lb eb ab).1 in
          opens ∙ ap (λ x. front ++ rest_from (c ∷ drop (k + 1) after) (cell_look colors x ∷ later)) (d refl)
          ∙ ap (λ l. front ++ l) (rest_kept colors c (drop (k + 1) after) (drop (k + 1) before) e pairs old) ∙ closes
    ] cv same

-- A cell that is shown already, or is covered, is left.
pub keeps : (known : Start) (k width height : ℕ) (before after : List Cell) (cursor : Option ℕ) (style : Option ContentStyle) (strokes : List Stroke) (b c : Cell)
    → k < length before → k < length after → get_or before k b ≡ b → get_or after k c ≡ c → (is_covered c ≡ false → b ≡ c) → ArePaired false before → ArePaired false after
    → ReachesPlace known width height before after k cursor style strokes → ReachesPlace known width height before after (k + 1) cursor style strokes
keeps known k width height before after cursor style strokes b c lb la eb ec e pb pa reached colors g s =
    let (h, ran, scanned) = reached colors g s in (
      h,
      ran,
      record {
        size = scanned.size;
        seen = scanned.seen;
        cells = scanned.cells ∙ stage_kept colors before after k b c lb la eb ec (is_covered c) refl e (at_place colors before pb k (omega (arith, lb))) (at_place colors after pa k (omega (arith, la)));
        place = scanned.place;
        set = scanned.set;
      },
    )

-- The cells of the next stage, after the cell is painted.
stage_painted : (colors : ColorOutput) (before after : List Cell) (cells : List Square) (k : ℕ) (b c : Cell) → k < length before → k < length after → get_or before k b ≡ b → get_or after k c ≡ c
    → is_covered c ≡ false → At colors after k → cells ≡ stage colors before after k → overwritten cells k (squares colors c) ≡ stage colors before after (k + 1)
stage_painted colors before after cells k b c lb la eb ec cv aa is =
    let front = take k (map (cell_look colors) after) in
    let old = map (cell_look colors) (drop k before) in
    let later = map (cell_look colors) (drop (k + 1) before) in
    let pairs : (is_covered c ≡ aa.first) × ArePaired (is_wide c) (drop (k + 1) after) = paired_next colors after k c la ec aa in
    let narrow : aa.first ≡ false = sym pairs.0 ∙ cv in
    let long : length front ≡ k = length-take-le k (map (cell_look colors) after) (subst (λ n. k ≤ n) (sym (length-map after (cell_look colors))) (omega (arith, la))) in
    let begun_so : cells ≡ front ++ rest_from (c ∷ drop (k + 1) after) old = is ∙ ap (λ l. front ++ rest_from l old) (opened after k c la ec) in
    rest_painted colors c (drop (k + 1) after) cells front old k cv pairs.1 begun_so long (aa.whole narrow)
    ∙ ap (λ l. front ++ (cell_look colors c ∷ rest_from (drop (k + 1) after) (drop 1 (map (cell_look colors) l)))) (opened before k b lb eb)
    ∙ sym (append_assoc front (cell_look colors c ∷ []) (rest_from (drop (k + 1) after) later))
    ∙ ap (λ l. l ++ rest_from (drop (k + 1) after) later) (sym (grown colors after k c la ec))

-- Each stage has the same number of cells.
stage_length : (colors : ColorOutput) (before after : List Cell) (k : ℕ) → length before ≡ length after → k ≤ length after → length (stage colors before after k) ≡ length after
stage_length colors before after k same le =
    let old = map (cell_look colors) (drop k before) in
    let long : length old ≡ length after - k = length-map (drop k before) (cell_look colors) ∙ length-drop k before ∙ ap (λ n. n - k) same in
    let back : length (rest_from (drop k after) old) ≡ length after - k = rest_length (drop k after) old (length-drop k after ∙ sym long) ∙ long in
    let front : length (take k (map (cell_look colors) after)) ≡ k =
    length-take-le k (map (cell_look colors) after) (subst (λ n. k ≤ n) (sym (length-map after (cell_look colors))) le) in
    omega (arith, le, length-append (take k (map (cell_look colors) after)) (rest_from (drop k after) old), front, back)

-- A cell that is painted is shown.
pub paints : (known : Start) (k width height : ℕ) (before after : List Cell) (cursor : Option ℕ) (style : Option ContentStyle) (strokes : List Stroke) (b c : Cell) (there : Bool) (how : Setting) (row column : ℕ)
    → k < length before → k < length after → length before ≡ width * height → length after ≡ width * height → get_or before k b ≡ b → get_or after k c ≡ c
    → row < height → column < width → height < 2 ^ 32 → width < 2 ^ 32 → row * width + column ≡ k
    → Sets style c.style how → HasByteColors how → FitsCell (shown_text c) → is_covered c ≡ false → (is_wide c ≡ true → is_last width k ≡ false) → ArePaired false before → ArePaired false after
    → (there ≡ true → cursor ≡ Some k)
    → ReachesPlace known width height before after k cursor style strokes
    → ReachesPlace known width height before after (k + 1) (right_of width (last_place k c)) (Some c.style) (strokes ++ cell_strokes there how column row c)
paints known k width height before after cursor style strokes b c there how row column lb la bl al eb ec r q hs ws at is fits held cv room pb pa is_there reached colors g s =
    let (h, ran, scanned) = reached colors g s in
    let (wide, high, all) = scanned.size in
    let place : row * h.width + column ≡ k = ap (λ w. row * w + column) wide ∙ at in
    let behind : row * h.width + column ≤ length h.cells = omega (arith, place, all, lb, bl) in
    let stays : is_wide c ≡ true → is_last h.width (row * h.width + column) ≡ false = λ w. ap (λ n. is_last h.width n) place ∙ ap (λ n. is_last n k) wide ∙ room w in
    let runs : run (tokens_of colors (strokes ++ cell_strokes there how column row c)) g ≡ Some (painted colors h k c) =
    runs_then colors strokes (cell_strokes there how column row c) g h ran
    ∙ cell_painted colors there style how row column c h (subst (λ n. row < n) (sym high) r) (subst (λ n. column < n) (sym wide) q) (omega (arith, r, hs)) (omega (arith, q, ws)) behind is fits held stays
    (λ y. scanned.place k (is_there y) ∙ ap Some (sym place)) scanned.set
    ∙ ap (λ n. Some (painted colors h n c)) place in
    let cells : overwritten h.cells k (squares colors c) ≡ stage colors before after (k + 1) =
    stage_painted colors before after h.cells k b c lb la eb ec cv (at_place colors after pa k (omega (arith, la))) scanned.cells in
    let size : length (overwritten h.cells k (squares colors c)) ≡ width * height =
    ap length cells ∙ stage_length colors before after (k + 1) (bl ∙ sym al) (omega (arith, la)) ∙ al in (
      painted colors h k c,
      runs,
      record {
        size = (wide, high, size);
        seen = scanned.seen;
        cells = cells;
        place = λ n y. ap (λ w. right_of w (last_place k c)) wide ∙ y;
        set = λ t y. ap (λ o. elim o [ None ↦ look colors c.style | Some u ↦ look colors u ]) y;
      },
    )

pub placed_held : (c : Cell) → is_covered c ≡ false → IsPlaced c → FitsCell (shown_text c)
placed_held c e (inl f) = let no : true ≡ false = sym f ∙ e in cc
placed_held c e (inr p) = p.1

pub keeps_counted : (before after : List Cell) (k again : ℕ) (strokes : List Stroke) (b c : Cell) → k < length before → k < length after → get_or before k b ≡ b → get_or after k c ≡ c → (HasToBePrinted b c → ⊥)
    → Counts before after k again strokes → Counts before after (k + 1) again strokes
keeps_counted before after k again strokes b c lb la eb ec e counts colors =
    let (n, differ, count) = counts colors in
    (n, same_at before after k n b c lb la eb ec e differ, count)

pub paints_counted : (before after : List Cell) (k again : ℕ) (strokes : List Stroke) (b c : Cell) (there : Bool) (how : Setting) (row column : ℕ) → k < length before → k < length after → get_or before k b ≡ b → get_or after k c ≡ c → HasToBePrinted b c
    → Counts before after k again strokes → Counts before after (k + 1) again (strokes ++ cell_strokes there how column row c)
paints_counted before after k again strokes b c there how row column lb la eb ec e counts colors =
    let (n, differ, count) = counts colors in (
      n + characters_of c,
      other_at before after k n b c lb la eb ec e differ,
      omega (arith, count, strokes_printed colors strokes (cell_strokes there how column row c), cell_prints colors there how column row c),
    )

cell_fitting : (there : Bool) (how : Setting) (column row : ℕ) (c : Cell) → column < 2 ^ 32 → row < 2 ^ 32 → FitsCell (shown_text c) → AllByRecursion IsFitting (cell_strokes there how column row c)
cell_fitting true setting.Kept column row c k r f = (f, tt)
cell_fitting true (setting.Colors change) column row c k r f = (tt, (f, tt))
cell_fitting true (setting.Whole s) column row c k r f = (tt, (f, tt))
cell_fitting false setting.Kept column row c k r f = ((k, r), (f, tt))
cell_fitting false (setting.Colors change) column row c k r f = ((k, r), (tt, (f, tt)))
cell_fitting false (setting.Whole s) column row c k r f = ((k, r), (tt, (f, tt)))

-- Strokes that fit are followed by others that do.
pub fitting_more : (known : Start) (strokes more : List Stroke) → AreFitting known strokes → AllByRecursion IsFitting more → AreFitting known (strokes ++ more)
fitting_more known strokes more a b = (
  a.0 ++ more,
  ap (λ l. l ++ more) a.1 ∙ append_assoc (first_strokes known) a.0 more,
  all_joined IsFitting a.0 more a.2 b,
)

pub paints_fitting : (known : Start) (strokes : List Stroke) (there : Bool) (how : Setting) (column row : ℕ) (c : Cell) → column < 2 ^ 32 → row < 2 ^ 32 → FitsCell (shown_text c)
    → AreFitting known strokes → AreFitting known (strokes ++ cell_strokes there how column row c)
paints_fitting known strokes there how column row c k r f all = fitting_more known strokes (cell_strokes there how column row c) all (cell_fitting there how column row c k r f)

-- ---- the end

-- At the end all are shown.
pub ends : (known : Start) (k width height again : ℕ) (before after : List Cell) (cursor : Option ℕ) (style : Option ContentStyle) (strokes : List Stroke) → length before ≡ width * height → length after ≡ width * height → width * height ≤ k
    → ReachesPlace known width height before after k cursor style strokes → Counts before after k again strokes → Sparing known width before after again cursor style strokes
    → Visited known width height before after cursor style strokes
ends known k width height again before after cursor style strokes lb la le reached counts few = record {
  leads = λ colors g s.
      let (h, ran, scanned) = reached colors g s in
      let new = map (cell_look colors) after in
      let long : length new ≡ width * height = length-map after (cell_look colors) ∙ la in
      let nothing : rest_from (drop k after) (map (cell_look colors) (drop k before)) ≡ [] =
      ap (λ l. rest_from l (map (cell_look colors) (drop k before))) (drop_all k after (subst (λ n. n ≤ k) (sym la) le))
      ∙ ap (λ l. begun (map (cell_look colors) l)) (drop_all k before (subst (λ n. n ≤ k) (sym lb) le)) in (
        h,
        ran,
        record {
          size = scanned.size;
          seen = scanned.seen;
          cells = scanned.cells ∙ ap (λ l. take k new ++ l) nothing ∙ append-nil (take k new) ∙ take_all k new (subst (λ n. n ≤ k) (sym long) le);
          place = scanned.place;
          set = scanned.set;
        },
      );
  again = again;
  count = subst (λ l. CountsAll l after again strokes) (take_all k before (subst (λ n. n ≤ k) (sym lb) le))
      (subst (λ l. CountsAll (take k before) l again strokes) (take_all k after (subst (λ n. n ≤ k) (sym la) le)) counts);
  sparing = few;
}
