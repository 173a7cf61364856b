-- A frame of a row right behind the last one.
use Rattle.std.proofs.Common.{◌≡◌, ◌<◌, ◌-◌, ◌*◌, ◌+◌, ℕ, Err, Option, Some, None, true, false, cond, List, ◌++◌, flat_map, refl, sym, ap, ◌∙◌, subst, arith, append_assoc, length, map, replicate, take}
use Rattle.std.specs.List.{AllByRecursion}
use Rattle.crossterm_command.specs.Tokens.{Token}
use Rattle.crossterm_command.specs.declared.color_output.ColorOutput.{ColorOutput}
use Rattle.crossterm_command.specs.declared.color_output.ColorOutput.TheVariants.{Enabled, Disabled}
use Rattle.crossterm_style.specs.Looks.{plain}
use Rattle.crossterm.specs.Functions.{AppendsReading}
use Rattle.screen.specs.declared.faults.DrawFault.{DrawFault}
use Rattle.screen.specs.declared.faults.DrawFault.TheVariants.{Size, Cursor, Memory, Command}
use Rattle.screen.specs.declared.starts.Start.TheVariants as start
use Rattle.screen.specs.declared.strokes.Stroke.{Stroke}
use Rattle.screen.specs.Buffers.{Picture}
use Rattle.screen.specs.Cells.{Cell, blank, cell_look}
use Rattle.screen.specs.Drawings.{CursorFits, HasSize, IsSameSize, cells_before, cells_drawn, knows_cells, same_output}
use Rattle.screen.specs.Grids.{Grid, Square, blank_square}
use Rattle.screen.specs.Screens.{Drawn, View}
use Rattle.screen.specs.Strips.{ColumnFits, IsFrameBy, IsNextFrame, IsRowFrame, IsShortFrame, LiesIn, RowNotDrawn, ShowsLast, StripView, TurnsNext, as_screen, in_row, without_row}
use Rattle.screen.specs.inside.Leaving.{left_by}
use Rattle.screen.specs.inside.Scans.{NextNotWritten, PlannedNext, StartsFrom}
use Rattle.screen.specs.inside.Strokes.{AreFitting, IsFitting, tokens_of, written_of}
use Rattle.screen.proofs.RowFrames.{alone, alone_drawn, alone_length, column_fits, cursor_fits, following, lands, one_row, row_same, same_size, screen_of, strip_of}
use Rattle.screen.proofs.Frames.{view_of}
use Rattle.screen.proofs.Rows.{Embeds}

-- ---- the row and a screen of its own

-- A screen of the strip's columns that shows what the row shows, with the cursor in the column in which it was left.
abbrev settled : ℕ → List Square → ℕ → Grid → Grid
settled width row from g = record (alone width row g) { cursor = Some from }

settled_embeds : (width from : ℕ) (above row below : List Square) (g : Grid) (d : Drawn) → LiesIn width above row below g → ShowsLast (Some d) (g.width - width) row → from < width → g.cursor ≡ Some (length above + from)
    → Embeds above (replicate (g.width - width) blank_square ++ below) (settled width row from g) g
settled_embeds width from above row below g d lies shows lt is =
    let front = map (cell_look d.colors) d.cells in
    let blanks = replicate (g.width - width) blank_square in
    record {
      cells = lies.cells ∙ ap (λ l. above ++ (l ++ below)) shows ∙ ap (λ l. above ++ l) (append_assoc front blanks below)
          ∙ ap (λ l. above ++ (l ++ (blanks ++ below))) (sym (alone_drawn width above row below g (Some d) lies shows));
      long = alone_length width above row below g lies;
      one = refl;
      narrower = lies.narrower;
      rows = lies.rows;
      style = refl;
      visible = refl;
      column = from;
      within = omega (arith, lt, lies.narrower);
      cursor = is;
      place = λ c y. let same : from ≡ c = cc in (subst (λ n. n < width) same lt, sym same);
      mark = λ c y. cc;
    }

same_colors : (a b : ColorOutput) → same_output a b ≡ true → a ≡ b
same_colors Enabled Enabled e = refl
same_colors Enabled Disabled e = cc
same_colors Disabled Enabled e = cc
same_colors Disabled Disabled e = refl

-- If cells are known, they were drawn.
known_settled : (width from : ℕ) (above row below : List Square) (g : Grid) (drawn : Option Drawn) (colors : ColorOutput) → knows_cells drawn colors ≡ true → LiesIn width above row below g → ShowsLast drawn (g.width - width) row
    → from < width → g.cursor ≡ Some (length above + from) → Embeds above (replicate (g.width - width) blank_square ++ below) (settled width row from g) g
known_settled width from above row below g None colors k lies shows lt is = cc
known_settled width from above row below g (Some d) colors k lies shows lt is = settled_embeds width from above row below g d lies shows lt is

-- What a frame begins with, if the cells were drawn in the same colours.
settled_starts : (colors : ColorOutput) (width from : ℕ) (above row below : List Square) (g : Grid) (drawn : Option Drawn) (v : View) → knows_cells drawn colors ≡ true
    → LiesIn width above row below g → ShowsLast drawn (g.width - width) row → g.visible ≡ true → g.style ≡ plain
    → StartsFrom (start.All from) colors width 1 (cells_drawn v drawn colors) (settled width row from g)
settled_starts colors width from above row below g None v k lies shows seen style = cc
settled_starts colors width from above row below g (Some d) v k lies shows seen style =
    let shown : take width row ≡ map (cell_look d.colors) d.cells = alone_drawn width above row below g (Some d) lies shows in
    let here : take width row ≡ map (cell_look colors) d.cells = shown ∙ ap (λ c. map (cell_look c) d.cells) (same_colors d.colors colors k) in
    let cells : cells_drawn v (Some d) colors ≡ d.cells = ap (λ b. cond b d.cells (replicate (v.width * v.height) blank)) k in (
      (refl, refl, alone_length width above row below g lies ∙ (omega arith)),
      here ∙ ap (map (cell_look colors)) (sym cells),
      refl,
      seen,
      style,
    )

-- The cells that a frame begins with, if they are known.
before_of : (width height : ℕ) (drawn : Option ColorOutput) (shown : List Cell) (room : ℕ) (colors : ColorOutput) → knows_cells (view_of width height drawn shown room).drawn colors ≡ true
    → cells_before (view_of width height drawn shown room) colors ≡ shown
before_of width height None shown room colors k = cc
before_of width height (Some c) shown room colors k = ap (λ b. cond b shown (replicate (width * height) blank)) k

-- ---- the frame

turns_next : (s : StripView) (colors : ColorOutput) (p : Picture) (from column : ℕ) (strokes : List Stroke) → p.width ≡ s.width → p.height ≡ 1 → knows_cells s.drawn colors ≡ true → from < s.width
    → AllByRecursion IsFitting strokes → PlannedNext s.width (cells_before (as_screen s) colors) p.cells from column strokes
    → TurnsNext s colors p from column (flat_map in_row (tokens_of colors strokes))
turns_next s colors p from column strokes wide high k lt fit plan above row below g lies shows points style =
    let small = settled s.width row from g in
    let (h0, ran, shown) = plan.leads colors small (settled_starts colors s.width from above row below g s.drawn (as_screen s) k lies shows points.1 style) in
    let size : HasSize p.width p.height h0 =
    (shown.0.0 ∙ sym wide, shown.0.1 ∙ sym high, shown.0.2 ∙ ap (λ n. n * 1) (sym wide) ∙ ap (λ n. p.width * n) (sym high)) in
    lands s colors p (Some column) above row below g small g (tokens_of colors strokes) h0 wide lies refl refl (following colors strokes fit)
    (known_settled s.width from above row below g s.drawn colors k lies shows lt points.0) ran (size, shown.1, shown.2, shown.3)

-- What is planned right behind the last frame is a short frame.
pub next_framed : (v : View) (s : StripView) (colors : ColorOutput) (p : Picture) (from column : ℕ) (strokes : List Stroke) → v ≡ as_screen s → IsSameSize v p → v.height ≡ 1 → knows_cells v.drawn colors ≡ true → from < v.width
    → AreFitting (start.All from) strokes → PlannedNext v.width (cells_before v colors) p.cells from column strokes → IsShortFrame s colors p from column (written_of true colors strokes)
next_framed v s colors p from column strokes e size high k lt fit plan =
    let same : written_of true colors strokes ≡ flat_map in_row (tokens_of colors strokes) = row_same colors (start.All from) strokes fit in
    let here : PlannedNext s.width (cells_before (as_screen s) colors) p.cells from column strokes = subst (λ w. PlannedNext w.width (cells_before w colors) p.cells from column strokes) e plan in
    let all : AllByRecursion IsFitting strokes = subst (AllByRecursion IsFitting) (sym fit.1) fit.2 in
    record {
      turns = subst (TurnsNext s colors p from column) (sym same)
          (turns_next s colors p from column strokes (size.0 ∙ ap (λ w. w.width) e) (size.1 ∙ high) (subst (λ w. knows_cells w.drawn colors ≡ true) e k) (subst (λ w. from < w.width) e lt) all here);
      frame = (tokens_of colors strokes, same, here.short colors);
    }

-- What is planned for the cells that are shown is planned for those that were drawn.
pub next_planned : (v : View) (width height : ℕ) (drawn : Option ColorOutput) (shown before after : List Cell) (room : ℕ) (colors : ColorOutput) (p : Picture) (from column : ℕ) (strokes : List Stroke)
    → view_of width height drawn shown room ≡ v → knows_cells v.drawn colors ≡ true → before ≡ shown → after ≡ p.cells → PlannedNext width before after from column strokes
    → PlannedNext v.width (cells_before v colors) p.cells from column strokes
next_planned v width height drawn shown before after room colors p from column strokes view k b a plan =
    let here : PlannedNext width (cells_before (view_of width height drawn shown room) colors) p.cells from column strokes =
    subst (λ l. PlannedNext width l p.cells from column strokes) (sym (before_of width height drawn shown room colors (subst (λ w. knows_cells w.drawn colors ≡ true) (sym view) k)))
    (subst (λ l. PlannedNext width l p.cells from column strokes) b (subst (λ l. PlannedNext width before l from column strokes) a plan)) in
    subst (λ w. PlannedNext w.width (cells_before w colors) p.cells from column strokes) view here

-- ---- a strip by its screen

-- A short frame is the next one, if all is known.
pub next_short : (s : StripView) (colors : ColorOutput) (p : Picture) (cursor : Option ℕ) (from column : ℕ) (ts : List Token) → knows_cells s.drawn colors ≡ true → s.left ≡ Some from → cursor ≡ Some column
    → IsShortFrame s colors p from column ts → IsNextFrame s colors p cursor ts
next_short s colors p cursor from column ts k l c frame =
    subst (λ b. IsFrameBy b s.left s colors p cursor ts) (sym k)
    (subst (λ o. IsFrameBy true o s colors p cursor ts) (sym l) (subst (λ o. IsFrameBy true (Some from) s colors p o ts) (sym c) frame))

-- A frame that assumes nothing is the next one, if something isn't known.
pub next_unknown : (s : StripView) (colors : ColorOutput) (p : Picture) (cursor : Option ℕ) (ts : List Token) → knows_cells s.drawn colors ≡ false → IsRowFrame s colors p cursor ts → IsNextFrame s colors p cursor ts
next_unknown s colors p cursor ts k frame = subst (λ b. IsFrameBy b s.left s colors p cursor ts) (sym k) frame

pub next_unleft : (s : StripView) (colors : ColorOutput) (p : Picture) (cursor : Option ℕ) (ts : List Token) → s.left ≡ None → IsRowFrame s colors p cursor ts → IsNextFrame s colors p cursor ts
next_unleft s colors p cursor ts l frame =
    subst (λ o. IsFrameBy (knows_cells s.drawn colors) o s colors p cursor ts) (sym l)
    (elim (knows_cells s.drawn colors) as (λ b. IsFrameBy b None s colors p cursor ts) [ true ↦ frame | false ↦ frame ])

pub next_hidden : (s : StripView) (colors : ColorOutput) (p : Picture) (cursor : Option ℕ) (ts : List Token) → cursor ≡ None → IsRowFrame s colors p cursor ts → IsNextFrame s colors p cursor ts
next_hidden s colors p cursor ts c frame = by_left s.left refl
  where
    hidden : IsRowFrame s colors p None ts
    hidden = subst (λ o. IsRowFrame s colors p o ts) c frame

    by_left : (o : Option ℕ) → s.left ≡ o → IsNextFrame s colors p cursor ts
    by_left None l = next_unleft s colors p cursor ts l frame
    by_left (Some from) l =
        subst (λ o. IsFrameBy (knows_cells s.drawn colors) o s colors p cursor ts) (sym l)
        (subst (λ o. IsFrameBy (knows_cells s.drawn colors) (Some from) s colors p o ts) (sym c)
        (elim (knows_cells s.drawn colors) as (λ b. IsFrameBy b (Some from) s colors p None ts) [ true ↦ hidden | false ↦ hidden ]))

-- What the screen draws in a row right behind the last frame, the strip draws.
pub next_drawn : (v : View) (left cursor : Option ℕ) (s : StripView) (colors : ColorOutput) (p : Picture) (from column : ℕ) (old new : Option (List ℕ)) → v.height ≡ 1 → strip_of v left ≡ s → from < v.width
    → knows_cells v.drawn colors ≡ true → left ≡ Some from → cursor ≡ Some column → IsSameSize v p × CursorFits v (Some (column, 0))
    → (strokes : List Stroke) × AppendsReading old new (written_of true colors strokes) × AreFitting (start.All from) strokes × PlannedNext v.width (cells_before v colors) p.cells from column strokes
    → (ts : List Token) × AppendsReading old new ts × IsNextFrame s colors p cursor ts
next_drawn v left cursor s colors p from column old new h e lt k l c fits (strokes, read, fit, plan) =
    let view : v ≡ as_screen s = screen_of v left s h e in (
      written_of true colors strokes,
      read,
      next_short s colors p cursor from column (written_of true colors strokes) (subst (λ w. knows_cells w.drawn colors ≡ true) view k) (sym (ap (λ t. t.left) e) ∙ l) c
          (next_framed v s colors p from column strokes view fits.0 h k lt fit plan),
    )

-- What it refuses, the strip refuses.
next_not_drawn : (fault : DrawFault) (v w : View) (left after cursor : Option ℕ) (s t : StripView) (colors : ColorOutput) (p : Picture) (from column : ℕ) (old new : Option (List ℕ)) → v.height ≡ 1 → v ≡ as_screen s → strip_of v left ≡ s
    → strip_of w after ≡ t → after ≡ left_by (Err fault) left cursor → from < v.width → knows_cells v.drawn colors ≡ true → left ≡ Some from → cursor ≡ Some column
    → NextNotWritten fault v w colors p from column old new → RowNotDrawn fault s t p cursor (IsNextFrame s colors p cursor) old new
next_not_drawn Size v w left after cursor s t colors p from column old new h e is f by lt k l c (apart, same, none) =
    (λ size. apart (same_size v s p e size), sym f ∙ ap (λ l. strip_of w l) by ∙ ap (λ u. strip_of u left) same ∙ is, none)
next_not_drawn Cursor v w left after cursor s t colors p from column old new h e is f by lt k l c (size, apart, same, none) = (
  one_row v s p e size,
  λ fits. apart (cursor_fits v s (Some column) e (subst (ColumnFits s) c fits)),
  sym f ∙ ap (λ l. strip_of w l) by ∙ ap (λ u. strip_of u left) same ∙ is,
  none,
)
next_not_drawn Memory v w left after cursor s t colors p from column old new h e is f by lt k l c refused = absurd refused
next_not_drawn (Command fault) v w left after cursor s t colors p from column old new h e is f by lt k l c (size, fits, gone, strokes, fit, plan, front) = (
  one_row v s p e size,
  subst (ColumnFits s) (sym c) (column_fits v s (Some column) e fits),
  sym f ∙ ap (λ l. strip_of w l) by ∙ ap (λ u. strip_of u None) gone ∙ ap without_row is,
  written_of true colors strokes,
  next_short s colors p cursor from column (written_of true colors strokes) (subst (λ u. knows_cells u.drawn colors ≡ true) e k) (sym (ap (λ t. t.left) is) ∙ l) c
      (next_framed v s colors p from column strokes e size h k lt fit plan),
  front,
)

pub next_refused : (fault : DrawFault) (v w : View) (left after cursor : Option ℕ) (s t : StripView) (colors : ColorOutput) (p : Picture) (from column : ℕ) (old new : Option (List ℕ)) → v.height ≡ 1 → strip_of v left ≡ s
    → strip_of w after ≡ t → after ≡ left_by (Err fault) left cursor → from < v.width → knows_cells v.drawn colors ≡ true → left ≡ Some from → cursor ≡ Some column
    → NextNotWritten fault v w colors p from column old new → RowNotDrawn fault s t p cursor (IsNextFrame s colors p cursor) old new
next_refused fault v w left after cursor s t colors p from column old new h e f by lt k l c refused =
    next_not_drawn fault v w left after cursor s t colors p from column old new h (screen_of v left s h e) e f by lt k l c refused

-- What isn't drawn by a frame that assumes nothing isn't drawn by the next one.
pub refused_as : (fault : DrawFault) (s t : StripView) (p : Picture) (cursor : Option ℕ) (F G : List Token → Type 0) (old new : Option (List ℕ)) → ((ts : List Token) → F ts → G ts)
    → RowNotDrawn fault s t p cursor F old new → RowNotDrawn fault s t p cursor G old new
refused_as Size s t p cursor F G old new to r = r
refused_as Cursor s t p cursor F G old new to r = r
refused_as Memory s t p cursor F G old new to r = r
refused_as (Command fault) s t p cursor F G old new to (one, fits, gone, ts, frame, front) = (one, fits, gone, ts, to ts frame, front)

-- The same for a frame that is drawn.
pub drawn_as : (F G : List Token → Type 0) (old new : Option (List ℕ)) → ((ts : List Token) → F ts → G ts) → (ts : List Token) × AppendsReading old new ts × F ts → (ts : List Token) × AppendsReading old new ts × G ts
drawn_as F G old new to (ts, read, frame) = (ts, read, to ts frame)
