-- Tokens in a row of a larger grid.
use Rattle.std.proofs.Common.{◌≡◌, ◌≢◌, ◌==◌, ◌&&◌, not, nat_le, ◌⊎◌, inl, inr, Option, Some, None, bytes_eq, codes, flat_map, ℕ, zero, suc, ◌+◌, ◌-◌, ◌*◌, ◌%◌, ◌<◌, ◌≤◌, Bool, true, false, cond, List, [], ◌∷◌, ◌++◌, refl, sym, ap, ◌∙◌, subst, arith, get_or, length, take, drop, append_assoc}
use Rattle.std.proofs.lemmas.Bool.{and_parts}
use Rattle.std.proofs.lemmas.Bool.Decides.{nat_tests}
use Rattle.std.proofs.lemmas.List.{length-append, length-drop, length-take-le, take-append-le}
use Rattle.std.proofs.lemmas.Nat.{mod-mul-add}
use Rattle.std.proofs.Math.Nat.{mod_self}
use Rattle.std.proofs.Math.Seq.{take-append-add, drop-append-add}
use Rattle.std.specs.Bool.{⊤}
use Rattle.std.specs.List.{AllByRecursion, slice_split}
use Rattle.crossterm_command.specs.Tokens.{Token}
use Rattle.crossterm_command.specs.Tokens.Token.{Char, Csi, Osc, Private}
use Rattle.crossterm_style.specs.Looks.{Style, sgr}
use Rattle.screen.specs.Grids.{Grid, Square, begun, control_at, ended, is_last, last_shown, line_feed, mark_at, first_marked, mode, move_cursor, overwritten, parameter_number, place, place_after, place_beside, place_by, print_at, print_one, print_two, right_of, run, step, takes_one, takes_two}
use Rattle.screen.specs.Grids.Square.{Unknown, Whole, First, Second}
use Rattle.screen.specs.Marks.{is_joined, is_mark_of, takes_none}
use Rattle.screen.specs.Strips.{in_row, second_parameter}
use Rattle.screen.proofs.Runs.{ended_length, le_true, run_then}
use Rattle.screen.proofs.Squares.{begun_length}

pub ended_behind : (above xs : List Square) → ended above ≡ above → ended (above ++ xs) ≡ above ++ ended xs
ended_behind [] xs e = refl
ended_behind (x ∷ []) [] e = e
ended_behind (x ∷ []) (y ∷ xs) e = refl
ended_behind (x ∷ z ∷ above) xs e = ap (λ l. x ∷ l) (ended_behind (z ∷ above) xs (ap (drop 1) e))

pub begun_before : (xs rest : List Square) → begun rest ≡ rest → begun (xs ++ rest) ≡ begun xs ++ rest
begun_before [] rest e = e
begun_before (x ∷ xs) rest e = refl

drop_before : (n : ℕ) (xs rest : List Square) → n ≤ length xs → drop n (xs ++ rest) ≡ drop n xs ++ rest
drop_before zero xs rest le = refl
drop_before (suc n) [] rest le = absurd (omega (arith, le))
drop_before (suc n) (x ∷ xs) rest le = drop_before n xs rest (omega (arith, le))

-- Cells of a row that are overwritten within it.
pub overwritten_within : (above row rest others : List Square) (k : ℕ) → ended above ≡ above → begun rest ≡ rest → k + length others ≤ length row
    → overwritten (above ++ (row ++ rest)) (length above + k) others ≡ above ++ (overwritten row k others ++ rest)
overwritten_within above row rest others k left right le =
    let front : ended (take (length above + k) (above ++ (row ++ rest))) ≡ above ++ ended (take k row) =
    ap ended (take-append-add above (row ++ rest) k) ∙ ended_behind above (take k (row ++ rest)) left
    ∙ ap (λ l. above ++ ended l) (take-append-le k row rest (omega (arith, le))) in
    let place : length above + k + length others ≡ length above + (k + length others) = omega arith in
    let back : begun (drop (length above + k + length others) (above ++ (row ++ rest))) ≡ begun (drop (k + length others) row) ++ rest =
    ap (λ n. begun (drop n (above ++ (row ++ rest)))) place ∙ ap begun (drop-append-add above (row ++ rest) (k + length others))
    ∙ ap begun (drop_before (k + length others) row rest le) ∙ begun_before (drop (k + length others) row) rest right in
    ap (λ l. l ++ (others ++ begun (drop (length above + k + length others) (above ++ (row ++ rest))))) front
    ∙ ap (λ l. (above ++ ended (take k row)) ++ (others ++ l)) back
    ∙ append_assoc above (ended (take k row)) (others ++ (begun (drop (k + length others) row) ++ rest))
    ∙ ap (λ l. above ++ (ended (take k row) ++ l)) (sym (append_assoc others (begun (drop (k + length others) row)) rest))
    ∙ ap (λ l. above ++ l) (sym (append_assoc (ended (take k row)) (others ++ begun (drop (k + length others) row)) rest))

-- ---- a grid of one row in a larger one

-- The cells of a grid of one row are in a larger grid, with others before and behind them, and the larger one's cursor is in their row.
pub record Embeds (above rest : List Square) (small big : Grid) : Type 0 where
  pub cells : big.cells ≡ above ++ (small.cells ++ rest)
  pub long : length small.cells ≡ small.width
  pub one : small.height ≡ 1
  pub narrower : small.width < big.width
  pub rows : (n : ℕ) × (length above ≡ n * big.width)
  pub style : big.style ≡ small.style
  pub visible : big.visible ≡ small.visible
  pub column : ℕ
  pub within : column < big.width
  pub cursor : big.cursor ≡ Some (length above + column)
  pub place : (c : ℕ) → small.cursor ≡ Some c → (c < small.width) × (c ≡ column)
  pub mark : (c : ℕ) → small.printed ≡ Some c → (c < small.width) × (big.printed ≡ Some (length above + c))

-- If the one grid is known, the other one is too, and has it in its row.
abbrev pub Simulates : List Square → List Square → Grid → Option Grid → Option Grid → Type 0
Simulates above rest big None o = ⊤
Simulates above rest big (Some small) o = (h : Grid) × (o ≡ Some h) × Embeds above rest small h × (h.width ≡ big.width) × (h.height ≡ big.height)

-- ---- a character

overwritten_length : (xs others : List Square) (k : ℕ) → k + length others ≤ length xs → length (overwritten xs k others) ≡ length xs
overwritten_length xs others k le =
    let front : length (ended (take k xs)) ≡ k = ended_length (take k xs) ∙ length-take-le k xs (omega (arith, le)) in
    let back : length (begun (drop (k + length others) xs)) ≡ length xs - (k + length others) = begun_length (drop (k + length others) xs) ∙ length-drop (k + length others) xs in
    omega (arith, le, front, back, length-append (ended (take k xs)) (others ++ begun (drop (k + length others) xs)), length-append others (begun (drop (k + length others) xs)))

suc_not_zero : (k : ℕ) → (k + 1 == 0) ≡ false
suc_not_zero k = grind (arith, nat_tests)

not_last : (n width at column : ℕ) → at ≡ n * width + column → column + 1 < width → is_last width at ≡ false
not_last n width at column is lt =
    let place : at + 1 ≡ n * width + (column + 1) = omega (arith, is) in
    let left : (at + 1) % width ≡ column + 1 = ap (λ k. k % width) place ∙ mod-mul-add n width (column + 1) lt in
    ap (λ k. k == 0) left ∙ suc_not_zero column

-- The place behind one that isn't the row's last.
next_in : (n width at column : ℕ) → at ≡ n * width + column → column + 1 < width → right_of width at ≡ Some (at + 1)
next_in n width at column is lt = ap (λ b. cond b None (Some (at + 1))) (not_last n width at column is lt)

stays : (width last : ℕ) → last < width → is_last width last ≡ false → last + 1 < width
stays width last lt e =
    let apart : last + 1 ≢ width =
    λ w.
    let none : (last + 1) % width ≡ 0 = ap (λ n. (last + 1) % n) (sym w) ∙ mod_self (last + 1) in
    let no : true ≡ false = ap (λ k. k == 0) (sym none) ∙ e in cc in
    omega (arith, lt, apart)

-- The place of the cursor behind a character in a row of its own.
next_alone : (width last c : ℕ) → last < width → right_of width last ≡ Some c → (c < width) × (c ≡ last + 1)
next_alone width last c lt e =
    elim (is_last width last) as (λ b. is_last width last ≡ b → cond b None (Some (last + 1)) ≡ Some c → (c < width) × (c ≡ last + 1)) [
      | true ↦ λ y q. cc
      | false ↦ λ y q.
          let is : c ≡ last + 1 = cc in
          let more : last + 1 < width = stays width last lt y in
          (omega (arith, is, more), is)
    ] refl e

put_in_row : (above rest others : List Square) (small big : Grid) (at last : ℕ) → ended above ≡ above → begun rest ≡ rest → (e : Embeds above rest small big) → at ≡ e.column
    → last + 1 ≡ at + length others → last < small.width → at < small.width
    → Embeds above rest (record small { cells = overwritten small.cells at others; cursor = right_of small.width last; printed = Some at })
    (record big { cells = overwritten big.cells (length above + at) others; cursor = right_of big.width (length above + last); printed = Some (length above + at) })
put_in_row above rest others small big at last left right e is ends lt room =
    let fits : at + length others ≤ length small.cells = omega (arith, e.long, ends, lt) in
    let narrow : last + 1 < big.width = omega (arith, lt, e.narrower) in
    let place : length above + last ≡ e.rows.0 * big.width + last = ap (λ n. n + last) e.rows.1 in
    record {
      cells = ap (λ l. overwritten l (length above + at) others) e.cells ∙ overwritten_within above small.cells rest others at left right fits;
      long = overwritten_length small.cells others at fits ∙ e.long;
      one = e.one;
      narrower = e.narrower;
      rows = e.rows;
      style = e.style;
      visible = e.visible;
      column = last + 1;
      within = narrow;
      cursor = next_in e.rows.0 big.width (length above + last) last place narrow ∙ ap Some (omega arith);
      place = λ c y. next_alone small.width last c lt y;
      mark = λ c y. let same : at ≡ c = cc in (subst (λ n. n < small.width) same room, ap (λ n. Some (length above + n)) same);
    }

-- A character that isn't CR or LF.
abbrev pub IsInLine : ℕ → Type 0
IsInLine c = ((c == 0x0D) ≡ false) × ((c == 0x0A) ≡ false)

no_control : (at c : ℕ) (g : Grid) → IsInLine c → control_at at c g ≡ None
no_control at c g f =
    ap (λ b. cond b (Some (record g { cursor = Some (at - at % g.width); printed = None })) (cond (c == 0x0A) (line_feed at (record g { printed = None })) None)) f.0
    ∙ ap (λ b. cond b (line_feed at (record g { printed = None })) None) f.1

printed_in_row : (above rest : List Square) (c : ℕ) (small big : Grid) (at : ℕ) → ended above ≡ above → begun rest ≡ rest → IsInLine c → (e : Embeds above rest small big) → at < small.width → at ≡ e.column
    → Simulates above rest big (print_at (Some at) c small) (elim (print_at (Some (length above + at)) c big) [ None ↦ None | Some h ↦ Some h ])
printed_in_row above rest c small big at left right f e lt is =
    elim (takes_one c) as (λ b. Simulates above rest big (cond b (Some (print_one at c small)) (cond (takes_two c && not (is_last small.width at)) (Some (print_two at c small)) (control_at at c small)))
    (elim (cond b (Some (print_one (length above + at) c big)) (cond (takes_two c && not (is_last big.width (length above + at))) (Some (print_two (length above + at) c big)) (control_at (length above + at) c big)))
    [ None ↦ None | Some h ↦ Some h ])) [
      | true ↦ (print_one (length above + at) c big, refl, one, refl, refl)
      | false ↦
          elim (takes_two c) as (λ b. Simulates above rest big (cond (b && not (is_last small.width at)) (Some (print_two at c small)) (control_at at c small))
          (elim (cond (b && not (is_last big.width (length above + at))) (Some (print_two (length above + at) c big)) (control_at (length above + at) c big)) [ None ↦ None | Some h ↦ Some h ])) [
            | true ↦
                elim (is_last small.width at) as (λ l. is_last small.width at ≡ l → Simulates above rest big (cond (not l) (Some (print_two at c small)) (control_at at c small))
                (elim (cond (not (is_last big.width (length above + at))) (Some (print_two (length above + at) c big)) (control_at (length above + at) c big)) [ None ↦ None | Some h ↦ Some h ])) [
                  | true ↦ λ y. nothing (cond (not (is_last big.width (length above + at))) (Some (print_two (length above + at) c big)) (control_at (length above + at) c big))
                  | false ↦ λ y.
                      subst (λ l. Simulates above rest big (Some (print_two at c small)) (elim (cond (not l) (Some (print_two (length above + at) c big)) (control_at (length above + at) c big)) [ None ↦ None | Some h ↦ Some h ]))
                      (sym (inside y)) (print_two (length above + at) c big, refl, two (stays small.width at lt y), refl, refl)
                ] refl
            | false ↦ nothing (control_at (length above + at) c big)
          ]
    ]
  where
    nothing : (o : Option Grid) → Simulates above rest big (control_at at c small) (elim o [ None ↦ None | Some h ↦ Some h ])
    nothing o = subst (λ q. Simulates above rest big q (elim o [ None ↦ None | Some h ↦ Some h ])) (sym (no_control at c small f)) tt

    one : Embeds above rest (print_one at c small) (print_one (length above + at) c big)
    one =
        subst (λ s. Embeds above rest (print_one at c small) (record big { cells = overwritten big.cells (length above + at) (Whole (c ∷ []) s ∷ []); cursor = right_of big.width (length above + at); printed = Some (length above + at) })) (sym e.style)
        (put_in_row above rest (Whole (c ∷ []) small.style ∷ []) small big at at left right e is (omega arith) lt lt)

    two : at + 1 < small.width → Embeds above rest (print_two at c small) (print_two (length above + at) c big)
    two more =
        let place : length above + (at + 1) ≡ length above + at + 1 = omega arith in
        subst (λ s. Embeds above rest (print_two at c small) (record big { cells = overwritten big.cells (length above + at) (First (c ∷ []) s ∷ Second ∷ []); cursor = right_of big.width (length above + at + 1); printed = Some (length above + at) })) (sym e.style)
        (subst (λ n. Embeds above rest (print_two at c small) (record big { cells = overwritten big.cells (length above + at) (First (c ∷ []) small.style ∷ Second ∷ []); cursor = right_of big.width n; printed = Some (length above + at) })) place
        (put_in_row above rest (First (c ∷ []) small.style ∷ Second ∷ []) small big at (at + 1) left right e is (omega arith) more lt))

    inside : is_last small.width at ≡ false → is_last big.width (length above + at) ≡ false
    inside y = not_last e.rows.0 big.width (length above + at) at (ap (λ n. n + at) e.rows.1) (omega (arith, stays small.width at lt y, e.narrower))

column_printed : (above rest : List Square) (c : ℕ) (small big : Grid) → ended above ≡ above → begun rest ≡ rest → IsInLine c → Embeds above rest small big
    → Simulates above rest big (print_at small.cursor c small) (elim (print_at big.cursor c big) [ None ↦ None | Some h ↦ Some h ])
column_printed above rest c small big left right f e = by_place small.cursor refl
  where
    by_place : (o : Option ℕ) → small.cursor ≡ o → Simulates above rest big (print_at o c small) (elim (print_at big.cursor c big) [ None ↦ None | Some h ↦ Some h ])
    by_place None w = tt
    by_place (Some at) w =
        let known : (at < small.width) × (at ≡ e.column) = e.place at w in
        let there : big.cursor ≡ Some (length above + at) = e.cursor ∙ ap (λ n. Some (length above + n)) (sym known.1) in
        subst (λ o. Simulates above rest big (print_at (Some at) c small) (elim (print_at o c big) [ None ↦ None | Some h ↦ Some h ])) (sym there)
        (printed_in_row above rest c small big at left right f e known.0 known.1)

-- ---- a mark

shown_front : (row rest : List Square) (k : ℕ) → k < length row → get_or (row ++ rest) k Unknown ≡ get_or row k Unknown
shown_front [] rest k lt = absurd (omega (arith, lt))
shown_front (x ∷ row) rest zero lt = refl
shown_front (x ∷ row) rest (suc k) lt = shown_front row rest k (omega (arith, lt))

marked_front : (row rest : List Square) (k c : ℕ) → k < length row → take k (row ++ rest) ++ first_marked c (drop k (row ++ rest)) ≡ (take k row ++ first_marked c (drop k row)) ++ rest
marked_front [] rest k c lt = absurd (omega (arith, lt))
marked_front (x ∷ row) rest zero c lt = refl
marked_front (x ∷ row) rest (suc k) c lt = ap (λ l. x ∷ l) (marked_front row rest k c (omega (arith, lt)))

-- The cell at a place of the row is the one that far behind the cells above.
shown_within : (above row rest : List Square) (k : ℕ) → k < length row → get_or (above ++ (row ++ rest)) (length above + k) Unknown ≡ get_or row k Unknown
shown_within [] row rest k lt = ap (λ n. get_or (row ++ rest) n Unknown) (omega arith) ∙ shown_front row rest k lt
shown_within (y ∷ above) row rest k lt =
    let more : suc (length above) + k ≡ suc (length above + k) = omega arith in
    ap (λ n. get_or (y ∷ (above ++ (row ++ rest))) n Unknown) more ∙ shown_within above row rest k lt

-- So is a cell that gets a mark.
marked_within : (above row rest : List Square) (k c : ℕ) → k < length row
    → take (length above + k) (above ++ (row ++ rest)) ++ first_marked c (drop (length above + k) (above ++ (row ++ rest))) ≡ above ++ ((take k row ++ first_marked c (drop k row)) ++ rest)
marked_within [] row rest k c lt = ap (λ n. take n (row ++ rest) ++ first_marked c (drop n (row ++ rest))) (omega arith) ∙ marked_front row rest k c lt
marked_within (y ∷ above) row rest k c lt =
    let more : suc (length above) + k ≡ suc (length above + k) = omega arith in
    ap (λ n. take n (y ∷ (above ++ (row ++ rest))) ++ first_marked c (drop n (y ∷ (above ++ (row ++ rest))))) more ∙ ap (λ l. y ∷ l) (marked_within above row rest k c lt)

marked_length : (row : List Square) (k c : ℕ) → length (take k row ++ first_marked c (drop k row)) ≡ length row
marked_length [] zero c = refl
marked_length [] (suc k) c = refl
marked_length (x ∷ row) zero c = refl
marked_length (x ∷ row) (suc k) c = ap (λ n. suc n) (marked_length row k c)

marked_in_row : (above rest : List Square) (c : ℕ) (small big : Grid) (at : ℕ) → Embeds above rest small big → small.printed ≡ Some at
    → Simulates above rest big (mark_at (Some at) c small) (elim (mark_at big.printed c big) [ None ↦ None | Some h ↦ Some h ])
marked_in_row above rest c small big at e w =
    let known : (at < small.width) × (big.printed ≡ Some (length above + at)) = e.mark at w in
    let lt : at < length small.cells = omega (arith, known.0, e.long) in
    let shown : get_or big.cells (length above + at) Unknown ≡ get_or small.cells at Unknown =
    ap (λ l. get_or l (length above + at) Unknown) e.cells ∙ shown_within above small.cells rest at lt in
    let h : Grid = record small { cells = take at small.cells ++ first_marked c (drop at small.cells) } in
    let b : Grid = record big { cells = take (length above + at) big.cells ++ first_marked c (drop (length above + at) big.cells) } in
    let both : Embeds above rest h b = record {
      cells = ap (λ l. take (length above + at) l ++ first_marked c (drop (length above + at) l)) e.cells ∙ marked_within above small.cells rest at c lt;
      long = marked_length small.cells at c ∙ e.long;
      one = e.one;
      narrower = e.narrower;
      rows = e.rows;
      style = e.style;
      visible = e.visible;
      column = e.column;
      within = e.within;
      cursor = e.cursor;
      place = e.place;
      mark = e.mark;
    } in
    subst (λ o. Simulates above rest big (mark_at (Some at) c small) (elim (mark_at o c big) [ None ↦ None | Some h ↦ Some h ])) (sym known.1)
    (subst (λ x. Simulates above rest big (mark_at (Some at) c small) (elim (cond (is_mark_of (last_shown x) c) (Some b) None) [ None ↦ None | Some h ↦ Some h ])) (sym shown)
    (elim (is_mark_of (last_shown (get_or small.cells at Unknown)) c) as (λ m. Simulates above rest big (cond m (Some h) None) (elim (cond m (Some b) None) [ None ↦ None | Some h ↦ Some h ])) [
      | true ↦ (b, refl, both, refl, refl)
      | false ↦ tt
    ]))

mark_in_row : (above rest : List Square) (c : ℕ) (small big : Grid) → Embeds above rest small big
    → Simulates above rest big (mark_at small.printed c small) (elim (mark_at big.printed c big) [ None ↦ None | Some h ↦ Some h ])
mark_in_row above rest c small big e = by_place small.printed refl
  where
    by_place : (o : Option ℕ) → small.printed ≡ o → Simulates above rest big (mark_at o c small) (elim (mark_at big.printed c big) [ None ↦ None | Some h ↦ Some h ])
    by_place None w = tt
    by_place (Some at) w = marked_in_row above rest c small big at e w

char_in_row : (above rest : List Square) (c : ℕ) (small big : Grid) → ended above ≡ above → begun rest ≡ rest → IsInLine c → Embeds above rest small big
    → Simulates above rest big (step (Char c) small) (run (Char c ∷ []) big)
char_in_row above rest c small big left right f e =
    elim (is_joined c) as (λ j. Simulates above rest big (cond j None (cond (takes_none c) (mark_at small.printed c small) (print_at small.cursor c small)))
    (elim (cond j None (cond (takes_none c) (mark_at big.printed c big) (print_at big.cursor c big))) [ None ↦ None | Some h ↦ Some h ])) [
      | true ↦ tt
      | false ↦
          elim (takes_none c) as (λ n. Simulates above rest big (cond n (mark_at small.printed c small) (print_at small.cursor c small))
          (elim (cond n (mark_at big.printed c big) (print_at big.cursor c big)) [ None ↦ None | Some h ↦ Some h ])) [
            | true ↦ mark_in_row above rest c small big e
            | false ↦ column_printed above rest c small big left right f e
          ]
    ]

-- ---- a move

le_fact : (m n : ℕ) → nat_le m n ≡ true → m ≤ n
le_fact m n h = grind (arith, nat_tests)

pub row_start : (above : List Square) (n width column : ℕ) → length above ≡ n * width → column < width → length above + column - (length above + column) % width ≡ length above
row_start above n width column rows lt =
    let left : (length above + column) % width ≡ column = ap (λ k. (k + column) % width) rows ∙ mod-mul-add n width column lt in
    omega (arith, left)

-- The cursor in another column of the row.
cursor_in_row : (above rest : List Square) (small big : Grid) (at : Option ℕ) (column : ℕ) → Embeds above rest small big → column < big.width → ((c : ℕ) → at ≡ Some c → (c < small.width) × (c ≡ column))
    → Embeds above rest (record small { cursor = at }) (record big { cursor = Some (length above + column) })
cursor_in_row above rest small big at column e lt place = record {
  cells = e.cells;
  long = e.long;
  one = e.one;
  narrower = e.narrower;
  rows = e.rows;
  style = e.style;
  visible = e.visible;
  column = column;
  within = lt;
  cursor = refl;
  place = place;
  mark = e.mark;
}

placed_in_row : (above rest : List Square) (row column : Option ℕ) (small big : Grid) → Embeds above rest small big
    → Simulates above rest big (move_cursor (place row column small) small) (elim (move_cursor (place_beside big.cursor column big) big) [ None ↦ None | Some h ↦ Some h ])
placed_in_row above rest None column small big e = tt
placed_in_row above rest (Some row) None small big e = tt
placed_in_row above rest (Some row) (Some column) small big e =
    elim ((nat_le 1 row && nat_le row small.height) && (nat_le 1 column && nat_le column small.width))
    as (λ b. ((nat_le 1 row && nat_le row small.height) && (nat_le 1 column && nat_le column small.width)) ≡ b
    → Simulates above rest big (move_cursor (cond b (Some ((row - 1) * small.width + (column - 1))) None) small) (elim (move_cursor (place_beside big.cursor (Some column) big) big) [ None ↦ None | Some h ↦ Some h ])) [
      | true ↦ λ y.
          let tests : ((nat_le 1 row && nat_le row small.height) ≡ true) × ((nat_le 1 column && nat_le column small.width) ≡ true) =
          and_parts (nat_le 1 row && nat_le row small.height) (nat_le 1 column && nat_le column small.width) y in
          let rows : (nat_le 1 row ≡ true) × (nat_le row small.height ≡ true) = and_parts (nat_le 1 row) (nat_le row small.height) tests.0 in
          let columns : (nat_le 1 column ≡ true) × (nat_le column small.width ≡ true) = and_parts (nat_le 1 column) (nat_le column small.width) tests.1 in
          let low : row ≤ small.height = le_fact row small.height rows.1 in
          let first : row - 1 ≡ 0 = omega (arith, e.one, low) in
          let none : (row - 1) * small.width ≡ 0 = ap (λ k. k * small.width) first ∙ (omega arith) in
          let from : 1 ≤ column = le_fact 1 column columns.0 in
          let to : column ≤ small.width = le_fact column small.width columns.1 in
          let wide : column ≤ big.width = omega (arith, to, e.narrower) in
          let fits : (nat_le 1 column && nat_le column big.width) ≡ true = ap (λ b. b && nat_le column big.width) columns.0 ∙ le_true column big.width wide in
          let beside : place_beside big.cursor (Some column) big ≡ Some (length above + (column - 1)) =
          ap (λ o. place_beside o (Some column) big) e.cursor ∙ ap (λ n. place_after n (Some column) big) (row_start above e.rows.0 big.width e.column e.rows.1 e.within)
          ∙ ap (λ b. cond b (Some (length above + (column - 1))) None) fits in
          let moved : Embeds above rest (record small { cursor = Some ((row - 1) * small.width + (column - 1)) }) (record big { cursor = Some (length above + (column - 1)) }) =
          cursor_in_row above rest small big (Some ((row - 1) * small.width + (column - 1))) (column - 1) e (omega (arith, from, wide))
          (λ c q.
          let is : c ≡ (row - 1) * small.width + (column - 1) = cc in
          (omega (arith, is, none, from, to), omega (arith, is, none))) in
          subst (λ o. Simulates above rest big (Some (record small { cursor = Some ((row - 1) * small.width + (column - 1)) })) (elim (move_cursor o big) [ None ↦ None | Some h ↦ Some h ])) (sym beside)
          (record big { cursor = Some (length above + (column - 1)) }, refl, moved, refl, refl)
      | false ↦ λ y. tt
    ] refl

moved_in_row : (above rest : List Square) (parts : List (List ℕ)) (small big : Grid) → Embeds above rest small big
    → Simulates above rest big (move_cursor (place_by parts small) small) (elim (move_cursor (place_beside big.cursor (parameter_number (second_parameter parts)) big) big) [ None ↦ None | Some h ↦ Some h ])
moved_in_row above rest [] small big e = tt
moved_in_row above rest (r ∷ []) small big e = tt
moved_in_row above rest (r ∷ c ∷ []) small big e = placed_in_row above rest (parameter_number r) (parameter_number c) small big e
moved_in_row above rest (r ∷ c ∷ d ∷ parts) small big e = tt

-- ---- styles and modes

restyled : (above rest : List Square) (small big : Grid) (s t : Style) → Embeds above rest small big → t ≡ s → Embeds above rest (record small { style = s }) (record big { style = t })
restyled above rest small big s t e same = record {
  cells = e.cells;
  long = e.long;
  one = e.one;
  narrower = e.narrower;
  rows = e.rows;
  style = same;
  visible = e.visible;
  column = e.column;
  within = e.within;
  cursor = e.cursor;
  place = e.place;
  mark = e.mark;
}

seen : (above rest : List Square) (small big : Grid) (on : Bool) → Embeds above rest small big → Embeds above rest (record small { visible = on }) (record big { visible = on })
seen above rest small big on e = record {
  cells = e.cells;
  long = e.long;
  one = e.one;
  narrower = e.narrower;
  rows = e.rows;
  style = e.style;
  visible = refl;
  column = e.column;
  within = e.within;
  cursor = e.cursor;
  place = e.place;
  mark = e.mark;
}

mode_in_row : (above rest : List Square) (text : List ℕ) (on : Bool) (small big : Grid) → Embeds above rest small big
    → Simulates above rest big (mode text on small) (elim (mode text on big) [ None ↦ None | Some h ↦ Some h ])
mode_in_row above rest text on small big e =
    elim (bytes_eq text (codes "?25")) as (λ b. Simulates above rest big (cond b (Some (record small { visible = on })) (cond (bytes_eq text (codes "?2026")) (Some small) None))
    (elim (cond b (Some (record big { visible = on })) (cond (bytes_eq text (codes "?2026")) (Some big) None)) [ None ↦ None | Some h ↦ Some h ])) [
      | true ↦ (record big { visible = on }, refl, seen above rest small big on e, refl, refl)
      | false ↦
          elim (bytes_eq text (codes "?2026")) as (λ b. Simulates above rest big (cond b (Some small) None) (elim (cond b (Some big) None) [ None ↦ None | Some h ↦ Some h ])) [
            | true ↦ (big, refl, e, refl, refl)
            | false ↦ tt
          ]
    ]

-- ---- tokens

-- A character other than CR and LF, CUP, SGR, SM or RM.
abbrev pub IsFollowing : Token → Type 0
IsFollowing (Char c) = IsInLine c
IsFollowing (Csi text [] final) = (final ≡ 0x48) ⊎ ((final ≡ 0x6D) ⊎ ((final ≡ 0x68) ⊎ (final ≡ 0x6C)))
IsFollowing t = ⊥

-- After a control function no mark goes to the character before it.
ended_marks : (above rest : List Square) (small big : Grid) → Embeds above rest small big → Embeds above rest (record small { printed = None }) (record big { printed = None })
ended_marks above rest small big e = record {
  cells = e.cells;
  long = e.long;
  one = e.one;
  narrower = e.narrower;
  rows = e.rows;
  style = e.style;
  visible = e.visible;
  column = e.column;
  within = e.within;
  cursor = e.cursor;
  place = e.place;
  mark = λ c y. cc;
}

token_in_row : (above rest : List Square) (t : Token) (small big : Grid) → ended above ≡ above → begun rest ≡ rest → IsFollowing t → Embeds above rest small big → Simulates above rest big (step t small) (run (in_row t) big)
token_in_row above rest (Char c) small big left right f e = char_in_row above rest c small big left right f e
token_in_row above rest (Csi text [] final) small big left right (inl f) e =
    subst (λ k. Simulates above rest big (step (Csi text [] k) small) (run (in_row (Csi text [] k)) big)) (sym f)
    (moved_in_row above rest (slice_split (λ b. b == 59) text) (record small { printed = None }) (record big { printed = None }) (ended_marks above rest small big e))
token_in_row above rest (Csi text [] final) small big left right (inr (inl f)) e =
    subst (λ k. Simulates above rest big (step (Csi text [] k) small) (run (in_row (Csi text [] k)) big)) (sym f) (
      record big { style = sgr text big.style; printed = None },
      refl,
      restyled above rest (record small { printed = None }) (record big { printed = None }) (sgr text small.style) (sgr text big.style) (ended_marks above rest small big e) (ap (sgr text) e.style),
      refl,
      refl,
    )
token_in_row above rest (Csi text [] final) small big left right (inr (inr (inl f))) e =
    subst (λ k. Simulates above rest big (step (Csi text [] k) small) (run (in_row (Csi text [] k)) big)) (sym f)
    (mode_in_row above rest text true (record small { printed = None }) (record big { printed = None }) (ended_marks above rest small big e))
token_in_row above rest (Csi text [] final) small big left right (inr (inr (inr f))) e =
    subst (λ k. Simulates above rest big (step (Csi text [] k) small) (run (in_row (Csi text [] k)) big)) (sym f)
    (mode_in_row above rest text false (record small { printed = None }) (record big { printed = None }) (ended_marks above rest small big e))
token_in_row above rest (Csi text (i ∷ more) final) small big left right f e = absurd f
token_in_row above rest (Osc text end) small big left right f e = absurd f
token_in_row above rest (Private b) small big left right f e = absurd f

onward : (above rest : List Square) (near far : Grid) (o q r : Option Grid) → r ≡ q → near.width ≡ far.width → near.height ≡ far.height → Simulates above rest near o q → Simulates above rest far o r
onward above rest near far None q r e w h s = tt
onward above rest near far (Some g) q r e w h s = (s.0, e ∙ s.1, s.2, s.3 ∙ w, s.4 ∙ h)

then_in_row : (above rest : List Square) (ts us vs : List Token) (big : Grid) (o : Option Grid) → Simulates above rest big o (run ts big)
    → ((h b : Grid) → Embeds above rest h b → Simulates above rest b (run us h) (run vs b)) → Simulates above rest big (elim o [ None ↦ None | Some h ↦ run us h ]) (run (ts ++ vs) big)
then_in_row above rest ts us vs big None s more = tt
then_in_row above rest ts us vs big (Some g) s more = onward above rest s.0 big (run us g) (run vs s.0) (run (ts ++ vs) big) (run_then ts vs big s.0 s.1) s.3 s.4 (more g s.0 s.2)

-- Tokens in a row of a larger grid do what they do in a grid of one row.
pub tokens_in_row : (above rest : List Square) (us : List Token) (small big : Grid) → ended above ≡ above → begun rest ≡ rest → AllByRecursion IsFollowing us → Embeds above rest small big
    → Simulates above rest big (run us small) (run (flat_map in_row us) big)
tokens_in_row above rest [] small big left right f e = (big, refl, e, refl, refl)
tokens_in_row above rest (t ∷ us) small big left right f e =
    then_in_row above rest (in_row t) us (flat_map in_row us) big (step t small) (token_in_row above rest t small big left right f.0 e) (λ h b d. tokens_in_row above rest us h b left right f.1 d)
