-- The way of a frame over the rows of a block.
use Rattle.std.proofs.Common.{◌≡◌, inl, inr, ℕ, suc, ◌+◌, ◌*◌, ◌<◌, ◌≤◌, true, cond, List, [], ◌∷◌, ◌++◌, Option, refl, sym, ap, ◌∙◌, subst, arith, append_assoc, drop, get_or, length, replicate, take}
use Rattle.std.proofs.lemmas.List.{drop-drop, drop_at, ext_get_or, length-append, length-drop, length-take-le, take-append-drop, take_at}
use Rattle.std.proofs.lemmas.Slice.{drop-put_mid, take-put_mid}
use Rattle.std.proofs.Math.Nat.{mul-add}
use Rattle.std.proofs.Math.Seq.{take-add}
use borrow.Rule.Slice.PartMut.{put_mid}
use Rattle.crossterm_command.specs.Tokens.{Token}
use Rattle.crossterm_command.specs.declared.color_output.ColorOutput.{ColorOutput}
use Rattle.crossterm_command.specs.declared.color_output.ColorOutput.TheVariants.{Enabled, Disabled}
use Rattle.screen.specs.declared.pens.Pen.{Pen}
use Rattle.screen.specs.declared.starts.Start.TheVariants as start
use Rattle.screen.specs.declared.strokes.Stroke.{Stroke}
use Rattle.screen.specs.Blocks.{Visits, changed, row_picture, row_strip, cut_rows, to_row}
use Rattle.screen.specs.Cells.{Cell, blank}
use Rattle.screen.specs.Drawings.{same_output}
use Rattle.screen.specs.Strips.{IsShortFrame, as_screen}
use Rattle.screen.specs.inside.Blocks.{PutsTokens, VisitsRow, Walks}
use Rattle.screen.specs.inside.Pens.{PutsStrokes}
use Rattle.screen.specs.inside.Scans.{PlannedNext}
use Rattle.screen.specs.inside.Strokes.{AreFitting, written_of}
use Rattle.screen.proofs.CellRows.{row_found, row_length, rows_count, rows_mixed}
use Rattle.screen.proofs.NextFrames.{next_framed}
use Rattle.screen.proofs.RowSteps.{puts_then, puts_written}

-- ---- one row

same_cells : (before after : List Cell) (at : ℕ) → length before ≡ length after → at ≡ length after → ((k : ℕ) → 0 ≤ k → k < at → get_or before k blank ≡ get_or after k blank) → before ≡ after
same_cells before after at long end same = ext_get_or blank before after long (λ k lt. same k (omega arith) (omega (arith, lt, long, end)))

-- No cell differs: nothing is put.
pub row_stays : (width row : ℕ) (colors : ColorOutput) (before after : List Cell) (at : ℕ × ℕ) (n : ℕ) → length before ≡ length after → n ≡ length after → ((k : ℕ) → 0 ≤ k → k < n → get_or before k blank ≡ get_or after k blank)
    → VisitsRow width colors before after row at at []
row_stays width row colors before after at n long end same = inl (same_cells before after n long end same, refl, refl)

same_self : (colors : ColorOutput) → same_output colors colors ≡ true
same_self Enabled = refl
same_self Disabled = refl

-- The strokes of a row right behind the last frame are a frame of the strip there.
row_frame : (width : ℕ) (colors : ColorOutput) (before after : List Cell) (from to : ℕ) (strokes : List Stroke) → from < width → AreFitting (start.All from) strokes → PlannedNext width before after from to strokes
    → IsShortFrame (row_strip width colors before) colors (row_picture width after) from to (written_of true colors strokes)
row_frame width colors before after from to strokes lt fit plan =
    let s = row_strip width colors before in
    let known : same_output colors colors ≡ true = same_self colors in
    next_framed (as_screen s) s colors (row_picture width after) from to strokes refl (refl, refl) refl known lt fit
    (subst (λ b. PlannedNext width (cond b before (replicate (width * 1) blank)) after from to strokes) (sym known) plan)

-- Some cell differs: the cursor goes to the row, and the frame is put.
pub row_changes : (width row n : ℕ) (colors : ColorOutput) (before after : List Cell) (at : ℕ × ℕ) (to : ℕ) (a b c : Option (List ℕ)) (p q r : Pen) → p.in_row ≡ true → p.colors ≡ colors → at.0 < width → to < width
    → n < length after → (get_or before n blank ≡ get_or after n blank → ⊥) → PutsTokens (to_row at.1 row) a p b q
    → (strokes : List Stroke) × PlannedNext width before after at.0 to strokes × AreFitting (start.All at.0) strokes × PutsStrokes strokes b q c r
    → (ts : List Token) × VisitsRow width colors before after row at (to, row) ts × PutsTokens ts a p c r
row_changes width row n colors before after at to a b c p q r in_row same lt below inside differ moved (strokes, plan, fit, puts) =
    let frame = written_of true colors strokes in
    let own : q.colors ≡ colors = moved.1.0 ∙ same in
    let written : PutsTokens frame b q c r = subst (λ k. PutsTokens (written_of true k strokes) b q c r) own (puts_written (start.All at.0) strokes b c q r (moved.1.1 ∙ in_row) fit puts) in (
      to_row at.1 row ++ frame,
      inr ((λ e. differ (ap (λ l. get_or l n blank) e)), refl, below, frame, refl, row_frame width colors before after at.0 to strokes lt fit plan),
      puts_then (to_row at.1 row) frame a b c p q r moved written,
    )

-- ---- several rows

pub walks_none : (width : ℕ) (colors : ColorOutput) (after rows : List (List Cell)) (at : ℕ × ℕ) → Walks width colors after rows at [] rows at
walks_none width colors after rows at column row more v = v

-- A way and one that goes on from there.
pub walks_both : (width : ℕ) (colors : ColorOutput) (after rows others last : List (List Cell)) (at to end : ℕ × ℕ) (ts us : List Token) → Walks width colors after rows at ts others to → Walks width colors after others to us last end
    → Walks width colors after rows at (ts ++ us) last end
walks_both width colors after rows others last at to end ts us first then column row more v =
    subst (Visits width colors after column row rows at.1 at.0) (sym (append_assoc ts us more)) (first column row (us ++ more) (then column row more v))

-- A row that is visited is one step of the way.
pub walks_row : (width : ℕ) (colors : ColorOutput) (after front back : List (List Cell)) (before new : List Cell) (row : ℕ) (at to : ℕ × ℕ) (ts : List Token) → length front ≡ row → get_or after row [] ≡ new
    → VisitsRow width colors before new row at to ts → Walks width colors after (front ++ before ∷ back) at ts (front ++ new ∷ back) to
walks_row width colors after front back before new row at to ts count is (inl (same, there, none)) =
    subst (λ l. Walks width colors after (front ++ before ∷ back) at l (front ++ new ∷ back) to) (sym none)
    (subst (λ k. Walks width colors after (front ++ before ∷ back) at [] (front ++ new ∷ back) k) (sym there)
    (subst (λ x. Walks width colors after (front ++ before ∷ back) at [] (front ++ x ∷ back) at) same (walks_none width colors after (front ++ before ∷ back) at)))
walks_row width colors after front back before new row at to ts count is (inr (differ, down, lt, frame, parts, short)) = λ column end more v.
    let there : to.1 ≡ length front = down ∙ sym count in
    let next : Visits width colors after column end (front ++ new ∷ back) (length front) to.0 more = subst (λ k. Visits width colors after column end (front ++ new ∷ back) k to.0 more) there v in
    let all : ts ++ more ≡ to_row at.1 (length front) ++ (frame ++ more) =
    ap (λ l. l ++ more) parts ∙ append_assoc (to_row at.1 row) frame more ∙ ap (λ k. to_row at.1 k ++ (frame ++ more)) (sym count) in
    changed (front ++ before ∷ back) at.1 at.0 (ts ++ more) front back before new to.0 frame more refl (ap (λ k. get_or after k []) count ∙ is) differ short next all

-- The cursor is in a column of the block behind a row.
pub row_ends : (width : ℕ) (colors : ColorOutput) (before after : List Cell) (row : ℕ) (at to : ℕ × ℕ) (ts : List Token) → at.0 < width → VisitsRow width colors before after row at to ts → to.0 < width
row_ends width colors before after row at to ts lt (inl (same, there, none)) = subst (λ k. k.0 < width) (sym there) lt
row_ends width colors before after row at to ts lt (inr (differ, down, below, frame, parts, short)) = below

-- ---- the rows of cells

-- So many rows are the new ones.
abbrev pub mixed : ℕ → ℕ → List Cell → List Cell → List Cell
mixed width r before after = take (width * r) after ++ drop (width * r) before

-- A row of them is the old one.
pub mixed_row : (width r : ℕ) (before after : List Cell) → width * r ≤ length after → take width (drop (width * r) (mixed width r before after)) ≡ take width (drop (width * r) before)
mixed_row width r before after le = ap (take width) (drop_at (take (width * r) after) (drop (width * r) before) (width * r) (length-take-le (width * r) after le))

-- With the next row they are one row more.
pub mixed_more : (width r k : ℕ) (before after row : List Cell) → width * r + width ≤ length before → length after ≡ length before → k ≡ width → row ≡ take width (drop (width * r) after)
    → put_mid (width * r) k (mixed width r before after) row ≡ mixed width (r + 1) before after
mixed_more width r k before after row le long whole is =
    let old = mixed width r before after in
    let all = put_mid (width * r) k old row in
    let next : width * (r + 1) ≡ width * r + width = mul-add width r 1 ∙ (omega arith) in
    let first : length (take (width * r) after) ≡ width * r = length-take-le (width * r) after (omega (arith, le, long)) in
    let size : length row ≡ width = ap length is ∙ length-take-le width (drop (width * r) after) (omega (arith, le, long, length-drop (width * r) after)) in
    let enough : width * r ≤ length old = omega (arith, first, length-append (take (width * r) after) (drop (width * r) before)) in
    let front : take (width * (r + 1)) all ≡ take (width * (r + 1)) after =
    take-put_mid (width * r) k old row (width * (r + 1)) (omega (arith, next, size)) enough
    ∙ ap (λ l. l ++ row) (take_at (take (width * r) after) (drop (width * r) before) (width * r) first) ∙ ap (λ l. take (width * r) after ++ l) is
    ∙ sym (take-add (width * r) width after) ∙ ap (λ n. take n after) (sym next) in
    let back : drop (width * (r + 1)) all ≡ drop (width * (r + 1)) before =
    drop-put_mid (width * r) k old row (width * (r + 1)) (omega (arith, next, whole)) enough (size ∙ sym whole)
    ∙ ap (λ n. drop n old) next ∙ sym (drop-drop width (width * r) old) ∙ ap (drop width) (drop_at (take (width * r) after) (drop (width * r) before) (width * r) first)
    ∙ drop-drop width (width * r) before ∙ ap (λ n. drop n before) (sym next) in
    sym (take-append-drop (width * (r + 1)) all) ∙ ap (λ l. l ++ drop (width * (r + 1)) all) front ∙ ap (λ l. take (width * (r + 1)) after ++ l) back

-- A row that is visited leads from the rows before it to those with it.
pub walks_mixed : (width r n : ℕ) (colors : ColorOutput) (before after : List Cell) (at to : ℕ × ℕ) (ts : List Token) → length before ≡ width * (r + suc n) → length after ≡ width * (r + suc n)
    → VisitsRow width colors (take width (drop (width * r) before)) (take width (drop (width * r) after)) r at to ts
    → Walks width colors (cut_rows width (r + suc n) after) (cut_rows width (r + suc n) (mixed width r before after)) at ts (cut_rows width (r + suc n) (mixed width (r + 1) before after)) to
walks_mixed width r n colors before after at to ts long size visit =
    let height = r + suc n in
    let front = cut_rows width r after in
    let back = cut_rows width n (drop (width * r + width) before) in
    let old = take width (drop (width * r) before) in
    let new = take width (drop (width * r) after) in
    let next : width * (r + 1) ≡ width * r + width = mul-add width r 1 ∙ (omega arith) in
    let held = row_length width r n before long in
    let wanted = row_length width r n after size in
    let there : cut_rows width height (mixed width r before after) ≡ front ++ old ∷ back =
    ap (λ l. cut_rows width height (take (width * r) after ++ l)) (sym (take-append-drop width (drop (width * r) before)) ∙ ap (λ l. old ++ l) (drop-drop width (width * r) before))
    ∙ rows_mixed width r n after old (drop (width * r + width) before) wanted.0 held.1 in
    let then : cut_rows width height (mixed width (r + 1) before after) ≡ front ++ new ∷ back =
    ap (λ k. cut_rows width height (take k after ++ drop k before)) next
    ∙ ap (λ l. cut_rows width height (l ++ drop (width * r + width) before)) (take-add (width * r) width after)
    ∙ ap (cut_rows width height) (append_assoc (take (width * r) after) new (drop (width * r + width) before))
    ∙ rows_mixed width r n after new (drop (width * r + width) before) wanted.0 wanted.1 in
    subst (λ l. Walks width colors (cut_rows width height after) l at ts (cut_rows width height (mixed width (r + 1) before after)) to) (sym there)
    (subst (λ l. Walks width colors (cut_rows width height after) (front ++ old ∷ back) at ts l to) (sym then)
    (walks_row width colors (cut_rows width height after) front back old new r at to ts (rows_count width r after) (row_found width r n after size) visit))
