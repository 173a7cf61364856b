-- The end of a frame, and frames as in the screen's contracts.
use Rattle.std.proofs.Common.{◌≡◌, ℕ, ◌+◌, ◌*◌, ◌<◌, ◌^◌, List, [], ◌∷◌, ◌++◌, Option, Some, None, IfSome, Bool, true, false, refl, sym, ap, ◌∙◌, subst, arith, if◌then◌else◌, length, map, option_map, replicate}
use Rattle.std.specs.List.{All, AllByRecursion}
use Rattle.crossterm_command.specs.declared.color_output.ColorOutput.{ColorOutput}
use Rattle.crossterm_command.specs.declared.color_output.ColorOutput.TheVariants.{Enabled, Disabled}
use Rattle.crossterm_style.specs.Looks.{plain}
use Rattle.crossterm_style.specs.Styles.{no_style}
use Rattle.screen.specs.declared.settings.Setting.{Setting}
use Rattle.screen.specs.declared.settings.Setting.TheVariants as setting
use Rattle.screen.specs.declared.starts.Start.{Start}
use Rattle.screen.specs.declared.starts.Start.TheVariants as start
use Rattle.screen.specs.declared.strokes.Stroke.{Stroke}
use Rattle.screen.specs.declared.strokes.Stroke.TheVariants as stroke
use Rattle.screen.specs.Buffers.{Picture}
use Rattle.crossterm_style.specs.declared.content_style.ContentStyle.{ContentStyle}
use Rattle.screen.specs.Cells.{ArePaired, Cell, IsPlaced, blank, cell_look, look}
use Rattle.screen.specs.Drawings.{DifferAt, HasCursor, HasSize, IsFrame, MayShow, cells_before, knows_cells, printed_count}
use Rattle.screen.specs.Updates.{IsSparing}
use Rattle.screen.specs.Screens.{View}
use Rattle.screen.specs.Grids.{Grid, run}
use Rattle.screen.specs.inside.Bridges.{Approaches}
use Rattle.screen.specs.inside.Scans.{IsPairedIf, Planned, PlannedNext, StartsFrom, Visited, is_known, start_by}
use Rattle.screen.specs.inside.Settings.{HasByteColors, Sets}
use Rattle.screen.specs.inside.Strokes.{AreFitting, IsFitting, again_strokes, last_strokes, move_strokes, stop_strokes, style_strokes, tokens, tokens_of}
use Rattle.screen.proofs.Crossings.{approach_counted, approach_stops, comes}
use Rattle.screen.proofs.Counts.{last_prints, stop_prints, strokes_printed}
use Rattle.screen.proofs.Runs.{looks_plain, moved, moved_if, plain_set, run_then, runs_then, styled_from}
use Rattle.screen.proofs.Scans.{fitting_more}
use Rattle.screen.proofs.Spares.{short, sparing, updated}
use Rattle.screen.proofs.Squares.{blanks_paired}

-- The cursor's place is within a size.
abbrev pub IsInside : ℕ → ℕ → Option (ℕ × ℕ) → Type 0
IsInside width height cursor = IfSome cursor (λ place. (place.0 < width) × (place.1 < height))

-- A grid with a cursor.
abbrev Pointed : Option (ℕ × ℕ) → Grid → Grid → Type 0
Pointed cursor g h = (h.width ≡ g.width) × (h.height ≡ g.height) × (h.cells ≡ g.cells) × HasCursor cursor h × (h.style ≡ plain)

finishes : (colors : ColorOutput) (width height : ℕ) (cursor : Option (ℕ × ℕ)) (g : Grid) → width < 2 ^ 32 → height < 2 ^ 32 → HasSize width height g → IsInside width height cursor
    → (h : Grid) × (run (tokens_of colors (last_strokes cursor)) g ≡ Some h) × Pointed cursor g h
finishes colors width height None g ws hs size inside =
    let g1 : Grid = record g { style = plain; printed = None } in
    (record g1 { visible = false }, run_then (tokens colors (stroke.Style no_style)) (tokens_of colors (stroke.Hide ∷ stroke.End ∷ [])) g g1 (plain_set colors g), (refl, refl, refl, refl, refl))
finishes colors width height (Some place) g ws hs size inside =
    let g1 : Grid = record g { style = plain; printed = None } in
    let g2 : Grid = record g1 { cursor = Some (place.1 * g.width + place.0) } in
    let goes : run (tokens_of colors (stroke.Move place.0 place.1 ∷ stroke.Show ∷ stroke.End ∷ [])) g1 ≡ Some (record g2 { visible = true }) =
    run_then (tokens colors (stroke.Move place.0 place.1)) (tokens_of colors (stroke.Show ∷ stroke.End ∷ [])) g1 g2
    (moved place.1 place.0 g1 (subst (λ n. place.1 < n) (sym size.1) inside.1) (subst (λ n. place.0 < n) (sym size.0) inside.0) (omega (arith, inside.1, hs)) (omega (arith, inside.0, ws))) in (
      record g2 { visible = true },
      run_then (tokens colors (stroke.Style no_style)) (tokens_of colors (stroke.Move place.0 place.1 ∷ stroke.Show ∷ stroke.End ∷ [])) g g1 (plain_set colors g) ∙ goes,
      (refl, refl, refl, (refl, refl), refl),
    )

pub planned : (known : Bool) (width height : ℕ) (before after : List Cell) (cursor : Option (ℕ × ℕ)) (at : Option ℕ) (style : Option ContentStyle) (strokes : List Stroke) → width < 2 ^ 32 → height < 2 ^ 32 → IsInside width height cursor
    → Visited (start_by known) width height before after at style strokes → Planned known width height before after cursor (strokes ++ last_strokes cursor)
planned known width height before after cursor at style strokes ws hs inside visited = record {
  leads = λ colors g s.
      let (h, ran, shown) = visited.leads colors g s in
      let (i, ended, pointed) = finishes colors width height cursor h ws hs shown.size inside in (
        i,
        runs_then colors strokes (last_strokes cursor) g h ran ∙ ended,
        (
          (pointed.0 ∙ shown.size.0, pointed.1 ∙ shown.size.1, ap length pointed.2 ∙ shown.size.2),
          pointed.2 ∙ shown.cells,
          pointed.3,
          pointed.4,
        ),
      );
  again = visited.again;
  count = λ colors.
      let (n, differ, count) = visited.count colors in
      (n, differ, omega (arith, count, strokes_printed colors strokes (last_strokes cursor), last_prints colors cursor));
  update = updated known width before after cursor visited.again strokes visited.sparing.spares;
  sparing = sparing known width before after cursor visited.again strokes visited.sparing.spares;
}

-- ---- the end of a frame right behind the last one

-- The strokes that stop lead to the cursor's column, in the plain style.
stopped : (colors : ColorOutput) (width column : ℕ) (at : Option ℕ) (style : Option ContentStyle) (there : Bool) (how : Setting) (g : Grid) → width < 2 ^ 32 → column < width → HasSize width 1 g
    → (there ≡ true → at ≡ Some column) → Sets style no_style how → HasByteColors how → ((n : ℕ) → at ≡ Some n → g.cursor ≡ Some n) → ((s : ContentStyle) → style ≡ Some s → g.style ≡ look colors s)
    → (p : Option ℕ) × (run (tokens_of colors (stop_strokes there how column)) g ≡ Some (record g { cursor = Some (0 * g.width + column); style = plain; printed = p }))
stopped colors width column at style there how g ws lt size is_there sets fits place set =
    let same : column ≡ 0 * g.width + column = omega arith in
    let moves = moved_if colors there 0 column g (subst (λ n. 0 < n) (sym size.1) (omega arith)) (subst (λ n. column < n) (sym size.0) lt) (omega arith) (omega (arith, lt, ws))
    (λ y. place column (is_there y) ∙ ap Some same) in
    let g1 : Grid = record g { cursor = Some (0 * g.width + column); printed = moves.0 } in
    let styles = styled_from colors style no_style how g1 sets fits set in (
      styles.0,
      runs_then colors (move_strokes there column 0) (style_strokes how) g g1 moves.1 ∙ styles.1
          ∙ ap (λ s. Some (record g1 { style = s; printed = styles.0 })) (looks_plain colors),
    )

pub planned_next : (width : ℕ) (before after : List Cell) (from column : ℕ) (at : Option ℕ) (style : Option ContentStyle) (strokes : List Stroke) (cells : List Cell) (there : Bool) (how : Setting) → width < 2 ^ 32 → column < width
    → ArePaired false after → All IsPlaced after → length after ≡ width * 1 → Approaches after at style column column cells there → Sets style no_style how → HasByteColors how
    → Visited (start.All from) width 1 before after at style strokes → PlannedNext width before after from column ((strokes ++ again_strokes cells) ++ stop_strokes there how column)
planned_next width before after from column at style strokes cells there how ws lt pa placed long way sets fits visited = record {
  leads = λ colors g s.
      let (h, ran, r) = visited.leads colors g s in
      let (cursor, q, to, is_there, place, went) = approach_stops colors width column after at style cells there h pa placed (omega (arith, long, lt)) lt way r.size.0 r.cells r.place r.set in
      let i : Grid = record h { cursor = cursor; printed = q } in
      let (p, ended) = stopped colors width column to style there how i ws lt r.size is_there sets fits place r.set in (
        record h { cursor = Some (0 * h.width + column); style = plain; printed = p },
        runs_then colors (strokes ++ again_strokes cells) (stop_strokes there how column) g i (runs_then colors strokes (again_strokes cells) g h ran ∙ went) ∙ ended,
        (
          r.size,
          r.cells,
          (refl, r.seen),
          refl,
        ),
      );
  short = λ colors.
      let front = strokes ++ again_strokes cells in
      let (n, differ, count) = approach_counted before after after visited.again at style column column cells there strokes way visited.count colors in
      short width before after from column visited.again at style strokes cells there how (comes after at style column column cells there (omega (arith, long, lt)) way) sets visited.sparing colors
      (n, differ, omega (arith, count, strokes_printed colors front (stop_strokes there how column), stop_prints colors there how column));
}

stop_fitting : (there : Bool) (how : Setting) (column : ℕ) → column < 2 ^ 32 → AllByRecursion IsFitting (stop_strokes there how column)
stop_fitting true setting.Kept column c = tt
stop_fitting true (setting.Colors change) column c = (tt, tt)
stop_fitting true (setting.Whole s) column c = (tt, tt)
stop_fitting false setting.Kept column c = ((c, omega arith), tt)
stop_fitting false (setting.Colors change) column c = ((c, omega arith), (tt, tt))
stop_fitting false (setting.Whole s) column c = ((c, omega arith), (tt, tt))

pub fitting_next : (from : ℕ) (strokes : List Stroke) (there : Bool) (how : Setting) (column : ℕ) → column < 2 ^ 32 → AreFitting (start.All from) strokes → AreFitting (start.All from) (strokes ++ stop_strokes there how column)
fitting_next from strokes there how column c all = fitting_more (start.All from) strokes (stop_strokes there how column) all (stop_fitting there how column c)

-- ---- both ends

last_fitting : (width height : ℕ) (cursor : Option (ℕ × ℕ)) → width < 2 ^ 32 → height < 2 ^ 32 → IsInside width height cursor → AllByRecursion IsFitting (last_strokes cursor)
last_fitting width height None ws hs inside = (tt, (tt, (tt, tt)))
last_fitting width height (Some place) ws hs inside = (tt, ((omega (arith, inside.0, ws), omega (arith, inside.1, hs)), (tt, (tt, tt))))

pub fitting : (known : Start) (width height : ℕ) (strokes : List Stroke) (cursor : Option (ℕ × ℕ)) → width < 2 ^ 32 → height < 2 ^ 32 → IsInside width height cursor
    → AreFitting known strokes → AreFitting known (strokes ++ last_strokes cursor)
fitting known width height strokes cursor ws hs inside all = fitting_more known strokes (last_strokes cursor) all (last_fitting width height cursor ws hs inside)

-- ---- a screen's frame

-- A screen by its parts.
abbrev pub view_of : ℕ → ℕ → Option ColorOutput → List Cell → ℕ → View
view_of width height drawn shown room = record { width = width; height = height; drawn = option_map (λ colors. record { colors = colors; cells = shown }) drawn; room = room }

-- The cells that a frame begins with.
abbrev Begun : ℕ → ℕ → Option ColorOutput → List Cell → ColorOutput → List Cell → Type 0
Begun width height drawn shown colors before = before ≡ (if is_known drawn colors then shown else replicate (width * height) blank)

started : (width height : ℕ) (drawn : Option ColorOutput) (shown : List Cell) (room : ℕ) (colors : ColorOutput) (before : List Cell) → Begun width height drawn shown colors before
    → (g : Grid) → MayShow (view_of width height drawn shown room) g → StartsFrom (start_by (is_known drawn colors)) colors width height before g
started width height None shown room colors before e g m = m.0
started width height (Some Enabled) shown room Enabled before e g m = (m.0, m.1 ∙ ap (map (cell_look Enabled)) (sym e))
started width height (Some Disabled) shown room Disabled before e g m = (m.0, m.1 ∙ ap (map (cell_look Disabled)) (sym e))
started width height (Some Enabled) shown room Disabled before e g m = m.0
started width height (Some Disabled) shown room Enabled before e g m = m.0

begun : (width height : ℕ) (drawn : Option ColorOutput) (shown : List Cell) (room : ℕ) (colors : ColorOutput) (before : List Cell) → Begun width height drawn shown colors before
    → before ≡ cells_before (view_of width height drawn shown room) colors
begun width height None shown room colors before e = e
begun width height (Some c) shown room colors before e = e

pub knows : (width height : ℕ) (drawn : Option ColorOutput) (shown : List Cell) (room : ℕ) (colors : ColorOutput) → is_known drawn colors ≡ knows_cells (view_of width height drawn shown room).drawn colors
knows width height None shown room colors = refl
knows width height (Some c) shown room colors = refl

sized : (p : Picture) (width height : ℕ) (g : Grid) → p.width ≡ width → p.height ≡ height → HasSize width height g → HasSize p.width p.height g
sized p width height g w h s = (s.0 ∙ sym w, s.1 ∙ sym h, s.2 ∙ ap (λ n. n * height) (sym w) ∙ ap (λ n. p.width * n) (sym h))

-- What was planned is a frame of the screen.
pub framed : (width height : ℕ) (drawn : Option ColorOutput) (shown before : List Cell) (room : ℕ) (colors : ColorOutput) (p : Picture) (cursor : Option (ℕ × ℕ)) (strokes : List Stroke)
    → p.width ≡ width → p.height ≡ height → before ≡ (if is_known drawn colors then shown else replicate (width * height) blank)
    → Planned (is_known drawn colors) width height before p.cells cursor strokes → IsFrame (view_of width height drawn shown room) colors p cursor (tokens_of colors strokes)
framed width height drawn shown before room colors p cursor strokes w h e plan = record {
  turns = λ g m.
      let (i, ran, shows) = plan.leads colors g (started width height drawn shown room colors before e g m) in
      (i, ran, (sized p width height i w h shows.0, shows.1, shows.2, shows.3));
  again = plan.again;
  count = subst (λ l. (n : ℕ) × DifferAt l p.cells n × (printed_count (tokens_of colors strokes) ≡ n + plan.again)) (begun width height drawn shown room colors before e) (plan.count colors);
  update = plan.update colors;
  sparing = subst (λ l. IsSparing (knows_cells (view_of width height drawn shown room).drawn colors) p.width l p.cells cursor plan.again (tokens_of colors strokes)) (begun width height drawn shown room colors before e)
      (subst (λ n. IsSparing (knows_cells (view_of width height drawn shown room).drawn colors) n before p.cells cursor plan.again (tokens_of colors strokes)) (sym w)
      (subst (λ y. IsSparing y width before p.cells cursor plan.again (tokens_of colors strokes)) (knows width height drawn shown room colors) (plan.sparing colors)));
}

-- The same, by what the parts are known to be.
pub frame_of : (s : View) (width height : ℕ) (drawn : Option ColorOutput) (shown prepared before after : List Cell) (room : ℕ) (colors : ColorOutput) (p : Picture) (cursor : Option (ℕ × ℕ)) (known : Bool) (strokes : List Stroke)
    → view_of width height drawn shown room ≡ s → p.width ≡ width → p.height ≡ height → after ≡ p.cells → known ≡ is_known drawn colors
    → prepared ≡ (if is_known drawn colors then shown else replicate (length shown) blank) → before ≡ prepared → length shown ≡ width * height
    → Planned known width height before after cursor strokes → IsFrame s colors p cursor (tokens_of colors strokes)
frame_of s width height drawn shown prepared before after room colors p cursor known strokes view w h a k prep b len plan =
    let sure : before ≡ (if is_known drawn colors then shown else replicate (width * height) blank) =
    b ∙ prep ∙ ap (λ n. if is_known drawn colors then shown else replicate n blank) len in
    let cells : Planned (is_known drawn colors) width height before p.cells cursor strokes =
    subst (λ l. Planned (is_known drawn colors) width height before l cursor strokes) a (subst (λ y. Planned y width height before after cursor strokes) k plan) in
    subst (λ v. IsFrame v colors p cursor (tokens_of colors strokes)) view (framed width height drawn shown before room colors p cursor strokes w h sure cells)

-- What fits behind the beginning of a frame, by what is known of the screen.
pub fitting_by : (width height : ℕ) (drawn : Option ColorOutput) (shown : List Cell) (room : ℕ) (s : View) (colors : ColorOutput) (known : Bool) (strokes : List Stroke)
    → view_of width height drawn shown room ≡ s → known ≡ is_known drawn colors → AreFitting (start_by known) strokes → AreFitting (start_by (knows_cells s.drawn colors)) strokes
fitting_by width height drawn shown room s colors known strokes view k fit =
    subst (λ b. AreFitting (start_by b) strokes) (k ∙ knows width height drawn shown room colors ∙ ap (λ v. knows_cells v.drawn colors) view) fit

-- Cells that a frame begins with are paired.
pub prepared_paired : (drawn : Option ColorOutput) (colors : ColorOutput) (shown now : List Cell) (n : ℕ) → now ≡ (if is_known drawn colors then shown else replicate n blank) → IsPairedIf drawn shown → ArePaired false now
prepared_paired None colors shown now n e p = subst (ArePaired false) (sym e) (blanks_paired n)
prepared_paired (Some Enabled) Enabled shown now n e p = subst (ArePaired false) (sym e) p
prepared_paired (Some Disabled) Disabled shown now n e p = subst (ArePaired false) (sym e) p
prepared_paired (Some Enabled) Disabled shown now n e p = subst (ArePaired false) (sym e) (blanks_paired n)
prepared_paired (Some Disabled) Enabled shown now n e p = subst (ArePaired false) (sym e) (blanks_paired n)
