-- A frame in a row.
use Rattle.std.proofs.Common.{◌≡◌, ◌==◌, ◌≤◌, ◌⊎◌, ◌&&◌, ◌^◌, Result, Ok, Err, IfErr, OnOk, inl, inr, nat_le, Option, Some, None, codes, flat_map, ℕ, zero, suc, ◌+◌, ◌-◌, ◌*◌, ◌%◌, ◌<◌, Bool, true, false, cond, List, [], ◌∷◌, ◌++◌, refl, sym, ap, ◌∙◌, subst, arith, length, map, take, drop, replicate, append_assoc, append-nil}
use Rattle.std.specs.Bool.{⊤}
use Rattle.std.specs.List.{AllByRecursion}
use Rattle.std.proofs.lemmas.Bool.Decides.{nat_tests}
use Rattle.std.proofs.lemmas.Fmt.{decimal_digit}
use Rattle.std.proofs.lemmas.List.Concat.{flat_map-append}
use Rattle.std.proofs.lemmas.List.{drop_all, length-append, length-map, length-replicate, length-take-le, take_at}
use Rattle.unicode_width.specs.Width.{char_width}
use Rattle.crossterm_command.specs.Tokens.{Token}
use Rattle.crossterm_command.specs.Tokens.Token.{Char, Csi}
use Rattle.crossterm_command.specs.declared.color_output.ColorOutput.{ColorOutput}
use Rattle.crossterm_command.proofs.Readings.{all_joined}
use Rattle.crossterm_style.specs.Looks.{plain}
use Rattle.crossterm_style.specs.Styles.{no_style}
use Rattle.crossterm.specs.Functions.{AppendsReading}
use Rattle.crossterm.specs.Sequences.{clear}
use Rattle.crossterm.specs.declared.terminal.ClearType.TheVariants.{All}
use Rattle.screen.specs.declared.faults.DrawFault.{DrawFault}
use Rattle.screen.specs.declared.faults.DrawFault.TheVariants.{Size, Cursor, Memory, Command}
use Rattle.screen.specs.declared.starts.Start.{Start}
use Rattle.screen.specs.declared.starts.Start.TheVariants as start
use Rattle.screen.specs.declared.strokes.Stroke.{Stroke}
use Rattle.screen.specs.declared.strokes.Stroke.TheVariants as stroke
use Rattle.screen.specs.Buffers.{Picture}
use Rattle.screen.specs.Cells.{cell_look}
use Rattle.screen.specs.Drawings.{CursorFits, HasCursor, IsFrame, IsSameSize, MayShow, Shows, ShowsDrawn, knows_cells}
use Rattle.screen.specs.Grids.{Grid, Square, begun, blank_square, move_cursor, overwritten, place_after, place_beside, run, takes_one, takes_two}
use Rattle.screen.specs.Marks.{AreMarks}
use Rattle.screen.specs.Screens.{Drawn, View}
use Rattle.screen.specs.Strips.{ColumnFits, HasColumn, IsOneRow, IsRowFrame, LiesIn, RowNotDrawn, ShowsLast, ShowsRow, StripView, TurnsRow, as_screen, in_first_row, in_row, second_parameter, without_row}
use Rattle.screen.specs.inside.Leaving.{left_by}
use Rattle.screen.specs.inside.Scans.{NotWritten, start_by}
use Rattle.screen.specs.inside.Strokes.{AreFitting, IsFitting, color_tokens, first_strokes, tokens, tokens_of, written, written_of}
use Rattle.screen.proofs.Marking.{mark_is_high}
use Rattle.screen.proofs.Rows.{Embeds, IsFollowing, IsInLine, Simulates, overwritten_within, row_start, tokens_in_row}
use Rattle.screen.proofs.Runs.{le_true, place_parts, plain_set, run_then, runs_then}
use Rattle.screen.proofs.Spares.{chars_all, color_all, style_all}

-- ---- blank cells

pub blanks_begun : (n : ℕ) (below : List Square) → begun below ≡ below → begun (replicate n blank_square ++ below) ≡ replicate n blank_square ++ below
blanks_begun zero below e = e
blanks_begun (suc n) below e = refl

blanks_joined : (xs : List Square) (n : ℕ) → replicate (length xs + n) blank_square ≡ map (λ c. blank_square) xs ++ replicate n blank_square
blanks_joined [] n = ap (λ k. replicate k blank_square) (omega arith)
blanks_joined (x ∷ xs) n =
    let more : length (x ∷ xs) + n ≡ suc (length xs + n) = omega arith in
    ap (λ k. replicate k blank_square) more ∙ ap (λ l. blank_square ∷ l) (blanks_joined xs n)

-- ---- the erasure

-- The cells of a row that are all overwritten.
pub all_overwritten : (row others : List Square) → length others ≡ length row → overwritten row 0 others ≡ others
all_overwritten row others e =
    let none : drop (0 + length others) row ≡ [] = drop_all (0 + length others) row (omega (arith, e)) in
    ap (λ l. others ++ begun l) none ∙ append-nil others

pub erased_row : (width : ℕ) (above row below : List Square) (g : Grid) → LiesIn width above row below g
    → run (Csi (codes "1") [] 0x47 ∷ Csi [] [] 0x4B ∷ []) (record g { style = plain })
    ≡ Some (record g { cells = above ++ (replicate g.width blank_square ++ below); cursor = Some (length above + 0); style = plain; printed = None })
erased_row width above row below g lies =
    let g1 : Grid = record g { style = plain; printed = None } in
    let g2 : Grid = record g1 { cursor = Some (length above + 0) } in
    let column = lies.cursor.0 in
    let fits : (nat_le 1 1 && nat_le 1 g.width) ≡ true = le_true 1 g.width (omega (arith, lies.narrower)) in
    let beside : place_beside g.cursor (Some 1) g1 ≡ Some (length above + 0) =
    ap (λ o. place_beside o (Some 1) g1) lies.cursor.2
    ∙ ap (λ n. place_after n (Some 1) g1) (row_start above lies.rows.0 g.width column lies.rows.1 lies.cursor.1)
    ∙ ap (λ b. cond b (Some (length above + 0)) None) fits in
    let start : (length above + 0) % g.width ≡ 0 =
    (let same : length above + 0 - (length above + 0) % g.width ≡ length above = row_start above lies.rows.0 g.width 0 lies.rows.1 (omega (arith, lies.narrower)) in
    omega (arith, same)) in
    let count : g.width - (length above + 0) % g.width ≡ g.width = omega (arith, start) in
    let long : length (replicate g.width blank_square) ≡ length row = length-replicate g.width blank_square ∙ sym lies.whole in
    let cells : overwritten g.cells (length above + 0) (replicate (g.width - (length above + 0) % g.width) blank_square) ≡ above ++ (replicate g.width blank_square ++ below) =
    ap (λ n. overwritten g.cells (length above + 0) (replicate n blank_square)) count
    ∙ ap (λ l. overwritten l (length above + 0) (replicate g.width blank_square)) lies.cells
    ∙ overwritten_within above row below (replicate g.width blank_square) 0 lies.left lies.right (omega (arith, long))
    ∙ ap (λ l. above ++ (l ++ below)) (all_overwritten row (replicate g.width blank_square) long) in
    ap (λ o. elim (move_cursor o g1) [ None ↦ None | Some h ↦ run (Csi [] [] 0x4B ∷ []) h ]) beside
    ∙ ap (λ l. Some (record g2 { cells = l })) cells

-- ---- the row and a screen of its own

-- A screen of the strip's columns that shows what the row shows.
abbrev pub alone : ℕ → List Square → Grid → Grid
alone width row g = record { width = width; height = 1; cells = take width row; cursor = None; visible = g.visible; style = g.style; printed = None }

pub alone_length : (width : ℕ) (above row below : List Square) (g : Grid) → LiesIn width above row below g → length (take width row) ≡ width
alone_length width above row below g lies = length-take-le width row (omega (arith, lies.whole, lies.narrower))

pub drawn_length : (width : ℕ) (above row below : List Square) (g : Grid) (d : Drawn) → LiesIn width above row below g → ShowsLast (Some d) (g.width - width) row
    → length (map (cell_look d.colors) d.cells) ≡ width
drawn_length width above row below g d lies shows =
    omega (arith, lies.whole, lies.narrower, ap length shows, length-append (map (cell_look d.colors) d.cells) (replicate (g.width - width) blank_square), length-replicate (g.width - width) blank_square)

-- The screen of its own shows what was drawn.
pub alone_drawn : (width : ℕ) (above row below : List Square) (g : Grid) (drawn : Option Drawn) → LiesIn width above row below g → ShowsLast drawn (g.width - width) row → ShowsDrawn drawn (alone width row g)
alone_drawn width above row below g None lies shows = tt
alone_drawn width above row below g (Some d) lies shows =
    ap (take width) shows ∙ take_at (map (cell_look d.colors) d.cells) (replicate (g.width - width) blank_square) width (drawn_length width above row below g d lies shows)

pub alone_shows : (s : StripView) (above row below : List Square) (g : Grid) → LiesIn s.width above row below g → ShowsLast s.drawn (g.width - s.width) row → MayShow (as_screen s) (alone s.width row g)
alone_shows s above row below g lies shows = (
  (refl, refl, alone_length s.width above row below g lies ∙ (omega arith)),
  alone_drawn s.width above row below g s.drawn lies shows,
)

-- If the cells are known, the row begins as the screen of its own, and is blank behind it.
pub known_embeds : (width : ℕ) (above row below : List Square) (g : Grid) (d : Drawn) → LiesIn width above row below g → ShowsLast (Some d) (g.width - width) row
    → Embeds above (replicate (g.width - width) blank_square ++ below) (alone width row g) g
known_embeds width above row below g d lies shows =
    let front = map (cell_look d.colors) d.cells in
    let blanks = replicate (g.width - width) blank_square in
    let taken : take width row ≡ front = alone_drawn width above row below g (Some d) lies shows in
    record {
      cells = lies.cells ∙ ap (λ l. above ++ (l ++ below)) shows ∙ ap (λ l. above ++ l) (append_assoc front blanks below) ∙ ap (λ l. above ++ (l ++ (blanks ++ below))) (sym taken);
      long = alone_length width above row below g lies;
      one = refl;
      narrower = lies.narrower;
      rows = lies.rows;
      style = refl;
      visible = refl;
      column = lies.cursor.0;
      within = lies.cursor.1;
      cursor = lies.cursor.2;
      place = λ c y. cc;
      mark = λ c y. cc;
    }

-- After the erasure both are blank.
pub erased_embeds : (width : ℕ) (above row below : List Square) (g : Grid) → LiesIn width above row below g
    → Embeds above (replicate (g.width - width) blank_square ++ below) (record (alone width row g) { cells = map (λ c. blank_square) (take width row); style = plain })
    (record g { cells = above ++ (replicate g.width blank_square ++ below); cursor = Some (length above + 0); style = plain; printed = None })
erased_embeds width above row below g lies =
    let front = take width row in
    let blanks = replicate (g.width - width) blank_square in
    let long : length front ≡ width = alone_length width above row below g lies in
    let count : g.width ≡ length front + (g.width - width) = omega (arith, long, lies.narrower) in
    record {
      cells = ap (λ n. above ++ (replicate n blank_square ++ below)) count ∙ ap (λ l. above ++ (l ++ below)) (blanks_joined front (g.width - width))
          ∙ ap (λ l. above ++ l) (append_assoc (map (λ c. blank_square) front) blanks below);
      long = length-map front (λ c. blank_square) ∙ long;
      one = refl;
      narrower = lies.narrower;
      rows = lies.rows;
      style = refl;
      visible = refl;
      column = 0;
      within = omega (arith, lies.narrower);
      cursor = refl;
      place = λ c y. cc;
      mark = λ c y. cc;
    }

-- ---- the frame

column_shown : (cursor : Option ℕ) (above rest : List Square) (small big : Grid) → Embeds above rest small big → HasCursor (in_first_row cursor) small → HasColumn cursor (length above) big
column_shown None above rest small big e h = e.visible ∙ h
column_shown (Some column) above rest small big e h =
    let place : 0 * small.width + column ≡ e.column = (e.place (0 * small.width + column) h.0).1 in
    (e.cursor ∙ ap (λ n. Some (length above + n)) (sym place ∙ (omega arith)), e.visible ∙ h.1)

landed : (s : StripView) (colors : ColorOutput) (p : Picture) (cursor : Option ℕ) (above row below : List Square) (g small big : Grid) (us : List Token) (o : Option Grid) (h0 : Grid)
    → p.width ≡ s.width → LiesIn s.width above row below g → big.width ≡ g.width → big.height ≡ g.height → o ≡ Some h0 → Shows colors p (in_first_row cursor) h0
    → Simulates above (replicate (g.width - s.width) blank_square ++ below) big o (run us big)
    → (h : Grid) × (new : List Square) × (run us big ≡ Some h) × ShowsRow s.width colors p cursor above new below g h
landed s colors p cursor above row below g small big us o h0 same lies wide high is shows sim =
    let blanks = replicate (g.width - s.width) blank_square in
    let there : Simulates above (blanks ++ below) big (Some h0) (run us big) = subst (λ q. Simulates above (blanks ++ below) big q (run us big)) is sim in
    let (h, ran, e, w, k) = there in
    let columns : h.width ≡ g.width = w ∙ wide in
    let long : length h0.cells ≡ s.width = e.long ∙ shows.0.0 ∙ same in (
      h,
      h0.cells ++ blanks,
      ran,
      record {
        lies = record {
          cells = e.cells ∙ ap (λ l. above ++ l) (sym (append_assoc h0.cells blanks below));
          rows = e.rows;
          whole = length-append h0.cells blanks ∙ omega (arith, long, length-replicate (g.width - s.width) blank_square, columns, lies.narrower);
          narrower = omega (arith, columns, lies.narrower);
          cursor = (e.column, e.within, e.cursor);
          left = lies.left;
          right = lies.right;
        };
        columns = columns;
        rows = k ∙ high;
        cells = ap (λ l. l ++ blanks) shows.1;
        points = column_shown cursor above (blanks ++ below) h0 h e shows.2;
        style = e.style ∙ shows.3;
      },
    )

-- From a grid and a screen of its own that are alike, the same tokens lead to grids that are alike.
pub lands : (s : StripView) (colors : ColorOutput) (p : Picture) (cursor : Option ℕ) (above row below : List Square) (g small big : Grid) (us : List Token) (h0 : Grid)
    → p.width ≡ s.width → LiesIn s.width above row below g → big.width ≡ g.width → big.height ≡ g.height → AllByRecursion IsFollowing us
    → Embeds above (replicate (g.width - s.width) blank_square ++ below) small big → run us small ≡ Some h0 → Shows colors p (in_first_row cursor) h0
    → (h : Grid) × (new : List Square) × (run (flat_map in_row us) big ≡ Some h) × ShowsRow s.width colors p cursor above new below g h
lands s colors p cursor above row below g small big us h0 same lies wide high follow e ran shows =
    landed s colors p cursor above row below g small big (flat_map in_row us) (run us small) h0 same lies wide high ran shows
    (tokens_in_row above (replicate (g.width - s.width) blank_square ++ below) us small big lies.left (blanks_begun (g.width - s.width) below lies.right) follow e)

-- If cells are known, they were drawn.
known_start : (width : ℕ) (above row below : List Square) (g : Grid) (drawn : Option Drawn) (colors : ColorOutput) → knows_cells drawn colors ≡ true
    → LiesIn width above row below g → ShowsLast drawn (g.width - width) row → Embeds above (replicate (g.width - width) blank_square ++ below) (alone width row g) g
known_start width above row below g None colors k lies shows = cc
known_start width above row below g (Some d) colors k lies shows = known_embeds width above row below g d lies shows

-- ---- strokes in a row

return_takes_no_cell : (takes_one 0x0D ≡ false) × (takes_two 0x0D ≡ false)
unfolding char_width
return_takes_no_cell = (refl, refl)

feed_takes_no_cell : (takes_one 0x0A ≡ false) × (takes_two 0x0A ≡ false)
unfolding char_width
feed_takes_no_cell = (refl, refl)

-- A character that takes cells is another than one that takes none.
other_than : (k c : ℕ) → (takes_one k ≡ false) × (takes_two k ≡ false) → (takes_one c ≡ true) ⊎ (takes_two c ≡ true) → (c == k) ≡ false
other_than k c none takes = by_test (c == k) refl
  where
    apart : (takes_one c ≡ true) ⊎ (takes_two c ≡ true) → c ≡ k → ⊥
    apart (inl f) e = let no : true ≡ false = sym f ∙ ap takes_one e ∙ none.0 in cc
    apart (inr f) e = let no : true ≡ false = sym f ∙ ap takes_two e ∙ none.1 in cc

    by_test : (b : Bool) → (c == k) ≡ b → b ≡ false
    by_test false e = refl
    by_test true e = let same : c ≡ k = grind (arith, nat_tests) in absurd (apart takes same)

-- A character that is printed isn't CR or LF.
printed_in_line : (c : ℕ) → (takes_one c ≡ true) ⊎ (takes_two c ≡ true) → IsInLine c
printed_in_line c takes = (other_than 0x0D c return_takes_no_cell takes, other_than 0x0A c feed_takes_no_cell takes)

-- Nor is a mark.
marks_in_line : (last : ℕ) (marks : List ℕ) → AreMarks last marks → AllByRecursion IsFollowing (map Char marks)
marks_in_line last [] a = tt
marks_in_line last (m ∷ marks) a =
    let high : 0xA0 ≤ m = mark_is_high last m a.1 in
    ((grind (arith, nat_tests), grind (arith, nat_tests)), marks_in_line m marks a.2)

following_each : (colors : ColorOutput) (s : Stroke) → IsFitting s → AllByRecursion IsFollowing (tokens colors s)
following_each colors stroke.Begin f = (inr (inr (inl refl)), tt)
following_each colors stroke.End f = (inr (inr (inr refl)), tt)
following_each colors stroke.Erase f = absurd f
following_each colors (stroke.Move column row) f = (inl refl, tt)
following_each colors (stroke.Style s) f = style_all IsFollowing (λ text. inr (inl refl)) colors s
following_each colors (stroke.Colors change) f = color_all IsFollowing (λ text. inr (inl refl)) colors change
following_each colors (stroke.Print c marks) f = (printed_in_line c f.0.2, marks_in_line c marks f.1)
following_each colors stroke.Show f = (inr (inr (inl refl)), tt)
following_each colors stroke.Hide f = (inr (inr (inr refl)), tt)

pub following : (colors : ColorOutput) (strokes : List Stroke) → AllByRecursion IsFitting strokes → AllByRecursion IsFollowing (tokens_of colors strokes)
following colors [] f = tt
following colors (s ∷ strokes) f = all_joined IsFollowing (tokens colors s) (tokens_of colors strokes) (following_each colors s f.0) (following colors strokes f.1)

-- Tokens that are the same in a row.
kept_in_row : (ts : List Token) → AllByRecursion (λ t. in_row t ≡ t ∷ []) ts → flat_map in_row ts ≡ ts
kept_in_row [] a = refl
kept_in_row (t ∷ ts) a = ap (λ l. l ++ flat_map in_row ts) a.0 ∙ ap (λ l. t ∷ l) (kept_in_row ts a.1)

-- A stroke whose numbers are below 2^32.
abbrev HasNumbers : Stroke → Type 0
HasNumbers (stroke.Move column row) = (column < 2 ^ 32) × (row < 2 ^ 32)
HasNumbers s = ⊤

row_each : (colors : ColorOutput) (s : Stroke) → HasNumbers s → written true colors s ≡ flat_map in_row (tokens colors s)
row_each colors stroke.Begin f = refl
row_each colors stroke.End f = refl
row_each colors stroke.Erase f = ap (λ digits. Csi digits [] 0x47 ∷ Csi [] [] 0x4B ∷ []) (decimal_digit 1 (omega arith))
row_each colors (stroke.Move column row) f = ap (λ parts. Csi (second_parameter parts) [] 0x47 ∷ []) (sym (place_parts (row + 1) (column + 1) (omega (arith, f.1)) (omega (arith, f.0))))
row_each colors (stroke.Style s) f = sym (kept_in_row (tokens colors (stroke.Style s)) (style_all (λ t. in_row t ≡ t ∷ []) (λ text. refl) colors s))
row_each colors (stroke.Colors change) f = sym (kept_in_row (color_tokens colors change) (color_all (λ t. in_row t ≡ t ∷ []) (λ text. refl) colors change))
row_each colors (stroke.Print c marks) f = sym (kept_in_row (tokens colors (stroke.Print c marks)) (refl, chars_all (λ t. in_row t ≡ t ∷ []) (λ m. refl) marks))
row_each colors stroke.Show f = refl
row_each colors stroke.Hide f = refl

row_all : (colors : ColorOutput) (strokes : List Stroke) → AllByRecursion HasNumbers strokes → written_of true colors strokes ≡ flat_map in_row (tokens_of colors strokes)
row_all colors [] f = refl
row_all colors (s ∷ strokes) f =
    ap (λ l. l ++ written_of true colors strokes) (row_each colors s f.0) ∙ ap (λ l. flat_map in_row (tokens colors s) ++ l) (row_all colors strokes f.1)
    ∙ sym (flat_map-append in_row (tokens colors s) (tokens_of colors strokes))

numbers_each : (s : Stroke) → IsFitting s → HasNumbers s
numbers_each stroke.Begin f = tt
numbers_each stroke.End f = tt
numbers_each stroke.Erase f = tt
numbers_each (stroke.Move column row) f = f
numbers_each (stroke.Style s) f = tt
numbers_each (stroke.Colors change) f = tt
numbers_each (stroke.Print c marks) f = tt
numbers_each stroke.Show f = tt
numbers_each stroke.Hide f = tt

numbers_all : (strokes : List Stroke) → AllByRecursion IsFitting strokes → AllByRecursion HasNumbers strokes
numbers_all [] f = tt
numbers_all (s ∷ strokes) f = (numbers_each s f.0, numbers_all strokes f.1)

first_numbers : (known : Start) → AllByRecursion HasNumbers (first_strokes known)
first_numbers start.Nothing = (tt, (tt, (tt, tt)))
first_numbers start.Cells = (tt, tt)
first_numbers (start.All at) = tt

-- Strokes in a row are written as the tokens that replace their own.
pub row_same : (colors : ColorOutput) (known : Start) (strokes : List Stroke) → AreFitting known strokes → written_of true colors strokes ≡ flat_map in_row (tokens_of colors strokes)
row_same colors known strokes f =
    row_all colors strokes (subst (AllByRecursion HasNumbers) (sym f.1) (all_joined HasNumbers (first_strokes known) f.0 (first_numbers known) (numbers_all f.0 f.2)))

-- ---- from each row

turns_known : (s : StripView) (colors : ColorOutput) (p : Picture) (cursor : Option ℕ) (strokes : List Stroke) → p.width ≡ s.width → knows_cells s.drawn colors ≡ true → AreFitting start.Cells strokes
    → IsFrame (as_screen s) colors p (in_first_row cursor) (tokens_of colors strokes) → TurnsRow s colors p cursor (flat_map in_row (tokens_of colors strokes))
turns_known s colors p cursor strokes same k fit frame above row below g lies shows =
    let small = alone s.width row g in
    let (h0, ran, shown) = frame.turns small (alone_shows s above row below g lies shows) in
    let all : AllByRecursion IsFitting strokes =
    subst (AllByRecursion IsFitting) (sym fit.1) (all_joined IsFitting (first_strokes start.Cells) fit.0 (tt, tt) fit.2) in
    lands s colors p cursor above row below g small g (tokens_of colors strokes) h0 same lies refl refl (following colors strokes all)
    (known_start s.width above row below g s.drawn colors k lies shows) ran shown

-- The first strokes of a frame of unknown cells, in a row.
erased_first : (colors : ColorOutput) (width : ℕ) (above row below : List Square) (g : Grid) → LiesIn width above row below g
    → run (flat_map in_row (tokens_of colors (first_strokes start.Nothing))) g ≡ Some (record g { cells = above ++ (replicate g.width blank_square ++ below); cursor = Some (length above + 0); style = plain; printed = None })
erased_first colors width above row below g lies =
    let styles = tokens colors (stroke.Style no_style) in
    let erase : List Token = Csi (codes "1") [] 0x47 ∷ Csi [] [] 0x4B ∷ [] in
    let kept : flat_map in_row styles ≡ styles = kept_in_row styles (style_all (λ t. in_row t ≡ t ∷ []) (λ text. refl) colors no_style) in
    let parts : flat_map in_row (styles ++ clear All) ≡ styles ++ erase = flat_map-append in_row styles (clear All) ∙ ap (λ l. l ++ erase) kept in
    ap (λ l. run l g) parts ∙ run_then styles erase g (record g { style = plain; printed = None }) (plain_set colors g) ∙ erased_row width above row below g lies

turns_unknown : (s : StripView) (colors : ColorOutput) (p : Picture) (cursor : Option ℕ) (strokes : List Stroke) → p.width ≡ s.width → AreFitting start.Nothing strokes
    → IsFrame (as_screen s) colors p (in_first_row cursor) (tokens_of colors strokes) → TurnsRow s colors p cursor (flat_map in_row (tokens_of colors strokes))
turns_unknown s colors p cursor strokes same fit frame above row below g lies shows =
    let later = fit.0 in
    let first = first_strokes start.Nothing in
    let small = alone s.width row g in
    let small1 : Grid = record small { cells = map (λ c. blank_square) (take s.width row); style = plain } in
    let big1 : Grid = record g { cells = above ++ (replicate g.width blank_square ++ below); cursor = Some (length above + 0); style = plain; printed = None } in
    let (h0, ran, shown) = frame.turns small (alone_shows s above row below g lies shows) in
    let erased : run (tokens_of colors first) small ≡ Some small1 =
    run_then (tokens colors (stroke.Style no_style)) (tokens_of colors (stroke.Erase ∷ [])) small (record small { style = plain }) (plain_set colors small) in
    let later_ran : run (tokens_of colors later) small1 ≡ Some h0 = sym (runs_then colors first later small small1 erased) ∙ ap (λ l. run (tokens_of colors l) small) (sym fit.1) ∙ ran in
    let (h, new, went, row_shown) = lands s colors p cursor above row below g small1 big1 (tokens_of colors later) h0 same lies refl refl (following colors later fit.2)
    (erased_embeds s.width above row below g lies) later_ran shown in
    let parts : flat_map in_row (tokens_of colors strokes) ≡ flat_map in_row (tokens_of colors first) ++ flat_map in_row (tokens_of colors later) =
    ap (λ l. flat_map in_row (tokens_of colors l)) fit.1 ∙ ap (flat_map in_row) (flat_map-append (tokens colors) first later) ∙ flat_map-append in_row (tokens_of colors first) (tokens_of colors later) in (
      h,
      new,
      ap (λ l. run l g) parts
          ∙ run_then (flat_map in_row (tokens_of colors first)) (flat_map in_row (tokens_of colors later)) g big1 (erased_first colors s.width above row below g lies) ∙ went,
      row_shown,
    )

turns_row : (s : StripView) (colors : ColorOutput) (p : Picture) (cursor : Option ℕ) (known : Bool) (strokes : List Stroke) → p.width ≡ s.width → knows_cells s.drawn colors ≡ known → AreFitting (start_by known) strokes
    → IsFrame (as_screen s) colors p (in_first_row cursor) (tokens_of colors strokes) → TurnsRow s colors p cursor (flat_map in_row (tokens_of colors strokes))
turns_row s colors p cursor true strokes same k fit frame = turns_known s colors p cursor strokes same k fit frame
turns_row s colors p cursor false strokes same k fit frame = turns_unknown s colors p cursor strokes same fit frame

-- ---- a strip by its screen

-- A frame of the screen, written in a row, is one of the strip.
row_framed : (v : View) (s : StripView) (colors : ColorOutput) (p : Picture) (cursor : Option ℕ) (strokes : List Stroke) → v ≡ as_screen s → IsSameSize v p → AreFitting (start_by (knows_cells v.drawn colors)) strokes
    → IsFrame v colors p (in_first_row cursor) (tokens_of colors strokes) → IsRowFrame s colors p cursor (written_of true colors strokes)
row_framed v s colors p cursor strokes e size fit frame =
    let known = knows_cells s.drawn colors in
    let fits : AreFitting (start_by known) strokes = subst (λ w. AreFitting (start_by (knows_cells w.drawn colors)) strokes) e fit in
    let here : IsFrame (as_screen s) colors p (in_first_row cursor) (tokens_of colors strokes) = subst (λ w. IsFrame w colors p (in_first_row cursor) (tokens_of colors strokes)) e frame in
    let same : written_of true colors strokes ≡ flat_map in_row (tokens_of colors strokes) = row_same colors (start_by known) strokes fits in
    let wide : p.width ≡ s.width = size.0 ∙ ap (λ w. w.width) e in
    record {
      turns = subst (TurnsRow s colors p cursor) (sym same) (turns_row s colors p cursor known strokes wide refl fits here);
      frame = (tokens_of colors strokes, same, here);
    }

-- A strip by its screen and the column in which the cursor was left.
abbrev pub strip_of : View → Option ℕ → StripView
strip_of v left = record { width = v.width; drawn = v.drawn; left = left; room = v.room }

pub screen_of : (v : View) (left : Option ℕ) (s : StripView) → v.height ≡ 1 → strip_of v left ≡ s → v ≡ as_screen s
screen_of v left s h e =
    ap (λ n. record { width = v.width; height = n; drawn = v.drawn; room = v.room }) h ∙ ap as_screen e

pub one_row : (v : View) (s : StripView) (p : Picture) → v ≡ as_screen s → IsSameSize v p → IsOneRow s p
one_row v s p e size = (size.0 ∙ ap (λ w. w.width) e, size.1 ∙ ap (λ w. w.height) e)

pub same_size : (v : View) (s : StripView) (p : Picture) → v ≡ as_screen s → IsOneRow s p → IsSameSize v p
same_size v s p e size = (size.0 ∙ sym (ap (λ w. w.width) e), size.1 ∙ sym (ap (λ w. w.height) e))

pub column_fits : (v : View) (s : StripView) (cursor : Option ℕ) → v ≡ as_screen s → CursorFits v (in_first_row cursor) → ColumnFits s cursor
column_fits v s None e fits = tt
column_fits v s (Some column) e fits = subst (λ w. column < w.width) e fits.0

pub cursor_fits : (v : View) (s : StripView) (cursor : Option ℕ) → v ≡ as_screen s → ColumnFits s cursor → CursorFits v (in_first_row cursor)
cursor_fits v s None e fits = tt
cursor_fits v s (Some column) e fits = (subst (λ w. column < w.width) (sym e) fits, subst (λ w. 0 < w.height) (sym e) (omega arith))

-- What the screen refuses, the strip refuses.
row_not_drawn : (fault : DrawFault) (v w : View) (left after : Option ℕ) (s t : StripView) (colors : ColorOutput) (p : Picture) (cursor : Option ℕ) (old new : Option (List ℕ)) → v ≡ as_screen s → strip_of v left ≡ s
    → strip_of w after ≡ t → after ≡ left_by (Err fault) left cursor → NotWritten true fault v w colors p (in_first_row cursor) old new → RowNotDrawn fault s t p cursor (IsRowFrame s colors p cursor) old new
row_not_drawn Size v w left after s t colors p cursor old new e is f by (apart, same, none) =
    (λ size. apart (same_size v s p e size), sym f ∙ ap (λ l. strip_of w l) by ∙ ap (λ u. strip_of u left) same ∙ is, none)
row_not_drawn Cursor v w left after s t colors p cursor old new e is f by (size, apart, same, none) =
    (one_row v s p e size, λ fits. apart (cursor_fits v s cursor e fits), sym f ∙ ap (λ l. strip_of w l) by ∙ ap (λ u. strip_of u left) same ∙ is, none)
row_not_drawn Memory v w left after s t colors p cursor old new e is f by refused = absurd refused
row_not_drawn (Command fault) v w left after s t colors p cursor old new e is f by (size, fits, gone, strokes, fit, frame, front) = (
  one_row v s p e size,
  column_fits v s cursor e fits,
  sym f ∙ ap (λ l. strip_of w l) by ∙ ap (λ u. strip_of u None) gone ∙ ap without_row is,
  written_of true colors strokes,
  row_framed v s colors p cursor strokes e size fit frame,
  front,
)

-- What the screen draws in a row, the strip draws.
pub strip_drawn : (v : View) (left : Option ℕ) (s : StripView) (colors : ColorOutput) (p : Picture) (cursor : Option ℕ) (place : Option (ℕ × ℕ)) (old new : Option (List ℕ)) → v.height ≡ 1 → strip_of v left ≡ s → place ≡ in_first_row cursor
    → IsSameSize v p × CursorFits v place
    → (strokes : List Stroke) × AppendsReading old new (written_of true colors strokes) × AreFitting (start_by (knows_cells v.drawn colors)) strokes × IsFrame v colors p place (tokens_of colors strokes)
    → (ts : List Token) × AppendsReading old new ts × IsRowFrame s colors p cursor ts
strip_drawn v left s colors p cursor place old new h e is fits (strokes, read, fit, frame) = (
  written_of true colors strokes,
  read,
  row_framed v s colors p cursor strokes (screen_of v left s h e) fits.0 fit (subst (λ o. IsFrame v colors p o (tokens_of colors strokes)) is frame),
)

pub strip_refused : (fault : DrawFault) (v w : View) (left after : Option ℕ) (s t : StripView) (colors : ColorOutput) (p : Picture) (cursor : Option ℕ) (place : Option (ℕ × ℕ)) (old new : Option (List ℕ)) → v.height ≡ 1 → strip_of v left ≡ s → strip_of w after ≡ t
    → after ≡ left_by (Err fault) left cursor → place ≡ in_first_row cursor → NotWritten true fault v w colors p place old new → RowNotDrawn fault s t p cursor (IsRowFrame s colors p cursor) old new
strip_refused fault v w left after s t colors p cursor place old new h e f by is refused =
    row_not_drawn fault v w left after s t colors p cursor old new (screen_of v left s h e) e f by (subst (λ o. NotWritten true fault v w colors p o old new) is refused)

-- Two facts of a result that is `Ok`.
pub on_ok_both : {T E : Type 0} {P Q R : Type 0} (r : Result T E) → (P → Q → R) → OnOk r P → OnOk r Q → OnOk r R
on_ok_both (Ok x) f p q = f p q
on_ok_both (Err e) f p q = tt

-- A fact of an error, by the result that it is.
pub err_with : {T E : Type 0} {P Q : E → Type 0} (r : Result T E) → ((e : E) → r ≡ Err e → P e → Q e) → IfErr r P → IfErr r Q
err_with (Ok x) f p = tt
err_with (Err e) f p = f e refl p
