-- The rows that are added below a block.
use Rattle.std.proofs.Common.{◌≡◌, ◌^◌, nat_lt, Some, None, ℕ, zero, suc, ◌+◌, ◌-◌, ◌*◌, ◌%◌, ◌<◌, ◌≤◌, true, false, cond, List, [], ◌∷◌, ◌++◌, refl, sym, ap, ◌∙◌, subst, arith, append_assoc, append-nil, drop, length, replicate}
use Rattle.std.proofs.lemmas.List.{length-append}
use Rattle.std.proofs.Math.Seq.{drop-append_seam}
use Rattle.unicode_width.specs.Width.{char_width}
use Rattle.crossterm_command.specs.Tokens.Token.{Char}
use Rattle.crossterm_command.proofs.Readings.{all_joined}
use Rattle.crossterm.specs.Sequences.{clear}
use Rattle.crossterm.specs.declared.terminal.ClearType.TheVariants.{UntilNewLine}
use Rattle.screen.specs.Grids.{Grid, Square, blank_square, char_effect, is_plain, line_feed, print_at}
use Rattle.screen.specs.Blocks.{IsRow, grown_column, grown_row, growth, more_rows, to_row}
use Rattle.screen.proofs.JoinedRows.{blank_is_row, joined, joined_append, more_times}
use Rattle.screen.proofs.Standing.{Leads, BlockAt, cells_count, erased_led, leads_then, lt_false, lt_true, row_begins, row_inside, row_led, stands_at, stands_same}

-- ---- a further row

-- CR and LF take no column.
return_effect : (at : ℕ) (g : Grid) → g.cursor ≡ Some at → char_effect 0x0D g ≡ Some (record g { cursor = Some (at - at % g.width); printed = None })
unfolding char_width
return_effect at g e = ap (λ o. print_at o 0x0D g) e

feed_effect : (at : ℕ) (g : Grid) → g.cursor ≡ Some at → char_effect 0x0A g ≡ line_feed at (record g { printed = None })
unfolding char_width
feed_effect at g e = ap (λ o. print_at o 0x0A g) e

-- CR.
returned : (width wide high : ℕ) (above block below : List (List Square)) (row column : ℕ) (g : Grid) → BlockAt width wide high above block below row column g
    → Leads (BlockAt width wide high above block below row 0) (Char 0x0D ∷ []) g
returned width wide high above block below row column g s =
    let at : ℕ = (length above + row) * wide + column in
    let begins : at - at % g.width ≡ (length above + row) * wide + 0 =
    ap (λ w. at - at % w) s.columns ∙ row_begins (length above + row) wide column s.beside ∙ (omega arith) in (
      record g { cursor = Some ((length above + row) * wide + 0); printed = None },
      ap (λ o. elim o [ None ↦ None | Some h ↦ Some h ]) (return_effect at g s.cursor) ∙ ap (λ n. Some (record g { cursor = Some n; printed = None })) begins,
      stands_at width wide high above block below row row column 0 None g s s.within (omega (arith, s.beside)),
    )

-- LF from the block's last row to the row below it.
fed_down : (width wide high : ℕ) (above block below : List (List Square)) (next : List Square) (row : ℕ) (g : Grid) → BlockAt width wide high above block (next ∷ below) row 0 g → row + 1 ≡ length block
    → Leads (BlockAt width wide high above (block ++ next ∷ []) below (length block) 0) (Char 0x0A ∷ []) g
fed_down width wide high above block below next row g s last =
    let g1 : Grid = record g { printed = None } in
    let at : ℕ = (length above + row) * wide + 0 in
    let to : ℕ = (length above + length block) * wide + 0 in
    let count : length above + length block ≡ length above + row + 1 = omega (arith, last) in
    let product : (length above + length block) * wide ≡ (length above + row) * wide + wide = ap (λ n. n * wide) count ∙ more_times (length above + row) wide in
    let place : at + g.width ≡ to = omega (arith, product, s.columns) in
    let inside : (length above + length block) * wide + 0 < high * wide = row_inside (length above + length block) high wide 0 (omega (arith, s.count)) (omega (arith, s.beside)) in
    let fits : nat_lt (at + g.width) (length g.cells) ≡ true =
    lt_true (at + g.width) (length g.cells) (omega (arith, place, inside, cells_count width wide high above block (next ∷ below) row 0 g s)) in
    let more : length (block ++ next ∷ []) ≡ length block + 1 = length-append block (next ∷ []) in
    let scrolled : Grid = record g1 { cells = drop g.width g.cells ++ replicate g.width blank_square } in (
      record g1 { cursor = Some to },
      ap (λ o. elim o [ None ↦ None | Some h ↦ Some h ]) (feed_effect at g s.cursor)
          ∙ ap (λ b. elim (cond b (Some (record g1 { cursor = Some (at + g.width) })) (cond (is_plain g.style) (Some scrolled) None)) [ None ↦ None | Some h ↦ Some h ]) fits
          ∙ ap (λ n. Some (record g1 { cursor = Some n })) place,
      record {
        cells = s.cells ∙ ap (λ l. joined (above ++ l)) (sym (append_assoc block (next ∷ []) below));
        columns = s.columns;
        lines = s.lines;
        count = omega (arith, s.count, more);
        rows = (s.rows.0, all_joined (IsRow wide) block (next ∷ []) s.rows.1 (s.rows.2.0, tt), s.rows.2.1);
        narrower = s.narrower;
        within = omega (arith, more);
        beside = s.beside;
        cursor = refl;
        visible = s.visible;
        style = s.style;
      },
    )

-- LF in the terminal's last row: all rows move up.
fed_up : (width wide high : ℕ) (above block : List (List Square)) (first : List Square) (row : ℕ) (g : Grid) → BlockAt width wide high (first ∷ above) block [] row 0 g → row + 1 ≡ length block
    → Leads (BlockAt width wide high above (block ++ replicate wide blank_square ∷ []) [] (length block) 0) (Char 0x0A ∷ []) g
fed_up width wide high above block first row g s last =
    let g1 : Grid = record g { printed = None } in
    let blanks : List Square = replicate wide blank_square in
    let at : ℕ = (length (first ∷ above) + row) * wide + 0 in
    let to : ℕ = (length above + length block) * wide + 0 in
    let count : length (first ∷ above) + row ≡ length above + length block = omega (arith, last) in
    let place : at ≡ to = ap (λ n. n * wide + 0) count in
    let whole : high ≡ length above + length block + 1 = omega (arith, s.count) in
    let product : high * wide ≡ (length above + length block) * wide + wide = ap (λ n. n * wide) whole ∙ more_times (length above + length block) wide in
    let past : nat_lt (at + g.width) (length g.cells) ≡ false =
    lt_false (at + g.width) (length g.cells) (omega (arith, place, product, s.columns, cells_count width wide high (first ∷ above) block [] row 0 g s)) in
    let more : length (block ++ blanks ∷ []) ≡ length block + 1 = length-append block (blanks ∷ []) in
    let others : joined (above ++ (block ++ [])) ≡ joined (above ++ block) = ap (λ l. joined (above ++ l)) (append-nil block) in
    let dropped : drop g.width g.cells ≡ joined (above ++ block) =
    ap (λ n. drop n g.cells) (s.columns ∙ sym s.rows.0.0.0) ∙ ap (drop (length first)) s.cells ∙ drop-append_seam first (joined (above ++ (block ++ []))) ∙ others in
    let cells : drop g.width g.cells ++ replicate g.width blank_square ≡ joined (above ++ ((block ++ blanks ∷ []) ++ [])) =
    ap (λ l. l ++ replicate g.width blank_square) dropped ∙ ap (λ n. joined (above ++ block) ++ replicate n blank_square) s.columns ∙ ap (λ l. joined (above ++ block) ++ l) (sym (append-nil blanks))
    ∙ sym (joined_append (above ++ block) (blanks ∷ [])) ∙ ap joined (append_assoc above block (blanks ∷ [])) ∙ ap (λ l. joined (above ++ l)) (sym (append-nil (block ++ blanks ∷ []))) in
    let h : Grid = record g1 { cells = drop g.width g.cells ++ replicate g.width blank_square } in (
      h,
      ap (λ o. elim o [ None ↦ None | Some k ↦ Some k ]) (feed_effect at g s.cursor)
          ∙ ap (λ b. elim (cond b (Some (record g1 { cursor = Some (at + g.width) })) (cond (is_plain g.style) (Some h) None)) [ None ↦ None | Some k ↦ Some k ]) past
          ∙ ap (λ t. elim (cond (is_plain t) (Some h) None) [ None ↦ None | Some k ↦ Some k ]) s.style,
      record {
        cells = cells;
        columns = s.columns;
        lines = s.lines;
        count = omega (arith, s.count, more);
        rows = (s.rows.0.1, all_joined (IsRow wide) block (blanks ∷ []) s.rows.1 (blank_is_row wide, tt), tt);
        narrower = s.narrower;
        within = omega (arith, more);
        beside = s.beside;
        cursor = s.cursor ∙ ap Some place;
        visible = s.visible;
        style = s.style;
      },
    )

-- CR, LF and EL: one more row, which is blank.
down_led : (width wide high : ℕ) (above block below : List (List Square)) (next : List Square) (row column : ℕ) (g : Grid) → BlockAt width wide high above block (next ∷ below) row column g → row + 1 ≡ length block
    → Leads (BlockAt width wide high above (block ++ replicate wide blank_square ∷ []) below (length block) 0) (Char 0x0D ∷ Char 0x0A ∷ clear UntilNewLine) g
down_led width wide high above block below next row column g s last =
    leads_then (BlockAt width wide high above block (next ∷ below) row 0) (BlockAt width wide high above (block ++ replicate wide blank_square ∷ []) below (length block) 0) (Char 0x0D ∷ []) (Char 0x0A ∷ clear UntilNewLine) g
    (returned width wide high above block (next ∷ below) row column g s)
    (λ h d.
    leads_then (BlockAt width wide high above (block ++ next ∷ []) below (length block) 0) (BlockAt width wide high above (block ++ replicate wide blank_square ∷ []) below (length block) 0) (Char 0x0A ∷ []) (clear UntilNewLine) h
    (fed_down width wide high above block below next row h d last) (λ k e. erased_led width wide high above block [] below next k e))

-- The same in the terminal's last row.
up_led : (width wide high : ℕ) (above block : List (List Square)) (first : List Square) (row column : ℕ) (g : Grid) → BlockAt width wide high (first ∷ above) block [] row column g → row + 1 ≡ length block
    → Leads (BlockAt width wide high above (block ++ replicate wide blank_square ∷ []) [] (length block) 0) (Char 0x0D ∷ Char 0x0A ∷ clear UntilNewLine) g
up_led width wide high above block first row column g s last =
    leads_then (BlockAt width wide high (first ∷ above) block [] row 0) (BlockAt width wide high above (block ++ replicate wide blank_square ∷ []) [] (length block) 0) (Char 0x0D ∷ []) (Char 0x0A ∷ clear UntilNewLine) g
    (returned width wide high (first ∷ above) block [] row column g s)
    (λ h d.
    leads_then (BlockAt width wide high above (block ++ replicate wide blank_square ∷ []) [] (length block) 0) (BlockAt width wide high above (block ++ replicate wide blank_square ∷ []) [] (length block) 0) (Char 0x0A ∷ [])
    (clear UntilNewLine) h (fed_up width wide high above block first row h d last) (λ k e. erased_led width wide high above block [] [] (replicate wide blank_square) k e))

dropped_none : (n : ℕ) → let none : List (List Square) = [] in drop n none ≡ none
dropped_none zero = refl
dropped_none (suc n) = refl

-- Behind further rows the cursor is in the first column.
first_column : (n : ℕ) → grown_column 0 n ≡ 0
first_column zero = refl
first_column (suc n) = refl

-- So many more rows, from the block's last one. Each comes from below, or if there is none, all rows move up.
rows_led : (n width wide high : ℕ) (above block below : List (List Square)) (row column : ℕ) (g : Grid) → BlockAt width wide high above block below row column g → row + 1 ≡ length block → length block + n ≤ high
    → Leads (BlockAt width wide high (drop (n - length below) above) (block ++ replicate n (replicate wide blank_square)) (drop n below) (row + n) (grown_column column n)) (more_rows n) g
rows_led zero width wide high above block below row column g s last fits =
    let none : 0 - length below ≡ 0 = omega arith in (
      g,
      refl,
      stands_same width wide high above (drop (0 - length below) above) block (block ++ []) below below row (row + 0) column column g (ap (λ n. drop n above) (sym none)) (sym (append-nil block)) refl (omega arith) refl s,
    )
rows_led (suc n) width wide high above block (next ∷ below) row column g s last fits =
    let blanks : List Square = replicate wide blank_square in
    let grown : List (List Square) = block ++ blanks ∷ [] in
    let more : length (block ++ replicate wide blank_square ∷ []) ≡ length block + 1 = length-append block (replicate wide blank_square ∷ []) in
    let fewer : n - length below ≡ suc n - length (next ∷ below) = omega arith in
    leads_then (BlockAt width wide high above grown below (length block) 0) (BlockAt width wide high (drop (suc n - length (next ∷ below)) above) (block ++ replicate (suc n) blanks) (drop (suc n) (next ∷ below)) (row + suc n) 0)
    (Char 0x0D ∷ Char 0x0A ∷ clear UntilNewLine) (more_rows n) g (down_led width wide high above block below next row column g s last)
    (λ h d.
    let later = rows_led n width wide high above grown below (length block) 0 h d (omega (arith, more)) (omega (arith, more, fits)) in (
      later.0,
      later.1,
      stands_same width wide high (drop (n - length below) above) (drop (suc n - length (next ∷ below)) above) (grown ++ replicate n blanks) (block ++ replicate (suc n) blanks) (drop n below) (drop (suc n) (next ∷ below))
          (length block + n) (row + suc n) (grown_column 0 n) 0 later.0 (ap (λ k. drop k above) fewer) (append_assoc block (blanks ∷ []) (replicate n blanks)) refl (omega (arith, last)) (first_column n) later.2,
    ))
rows_led (suc n) width wide high (first ∷ above) block [] row column g s last fits =
    let blanks : List Square = replicate wide blank_square in
    let grown : List (List Square) = block ++ blanks ∷ [] in
    let more : length (block ++ replicate wide blank_square ∷ []) ≡ length block + 1 = length-append block (replicate wide blank_square ∷ []) in
    let all : n - 0 ≡ n = omega arith in
    let whole : suc n - 0 ≡ suc n = omega arith in
    leads_then (BlockAt width wide high above grown [] (length block) 0) (BlockAt width wide high (drop (suc n - 0) (first ∷ above)) (block ++ replicate (suc n) blanks) [] (row + suc n) 0)
    (Char 0x0D ∷ Char 0x0A ∷ clear UntilNewLine) (more_rows n) g (up_led width wide high above block first row column g s last)
    (λ h d.
    let later = rows_led n width wide high above grown [] (length block) 0 h d (omega (arith, more)) (omega (arith, more, fits)) in (
      later.0,
      later.1,
      stands_same width wide high (drop (n - 0) above) (drop (suc n - 0) (first ∷ above)) (grown ++ replicate n blanks) (block ++ replicate (suc n) blanks) (drop n []) [] (length block + n) (row + suc n) (grown_column 0 n) 0 later.0
          (ap (λ k. drop k above) all ∙ sym (ap (λ k. drop k (first ∷ above)) whole)) (append_assoc block (blanks ∷ []) (replicate n blanks)) (dropped_none n) (omega (arith, last)) (first_column n) later.2,
    ))
rows_led (suc n) width wide high [] block [] row column g s last fits = absurd (omega (arith, s.count, fits))

-- The same from any row of the block.
pub grown_led : (n width wide high : ℕ) (above block below : List (List Square)) (row column : ℕ) (g : Grid) → BlockAt width wide high above block below row column g → length block < 2 ^ 32 → length block + n ≤ high
    → Leads (BlockAt width wide high (drop (n - length below) above) (block ++ replicate n (replicate wide blank_square)) (drop n below) (grown_row (length block) row n) (grown_column column n)) (growth (length block) row n) g
grown_led zero width wide high above block below row column g s few fits =
    let none : 0 - length below ≡ 0 = omega arith in (
      g,
      refl,
      stands_same width wide high above (drop (0 - length below) above) block (block ++ []) below below row row column column g (ap (λ n. drop n above) (sym none)) (sym (append-nil block)) refl refl refl s,
    )
grown_led (suc n) width wide high above block below row column g s few fits =
    let last : length block - 1 + 1 ≡ length block = omega (arith, s.within) in
    leads_then (BlockAt width wide high above block below (length block - 1) column)
    (BlockAt width wide high (drop (suc n - length below) above) (block ++ replicate (suc n) (replicate wide blank_square)) (drop (suc n) below) (length block + n) 0) (to_row row (length block - 1)) (more_rows (suc n)) g
    (row_led width wide high above block below row (length block - 1) column g s (omega (arith, s.within)) few)
    (λ h d.
    let later = rows_led (suc n) width wide high above block below (length block - 1) column h d last fits in
    (later.0, later.1, subst (λ k. BlockAt width wide high (drop (suc n - length below) above) (block ++ replicate (suc n) (replicate wide blank_square)) (drop (suc n) below) k 0 later.0) (omega (arith, last)) later.2))
