-- Styles that are laid over rectangles.
use Rattle.std.proofs.Common.{◌≡◌, ℕ, zero, suc, ◌+◌, ◌*◌, ◌/◌, ◌%◌, ◌<◌, ◌≤◌, ◌&&◌, nat_le, nat_lt, Bool, true, false, cond, List, [], ◌∷◌, ◌++◌, refl, sym, ap, ◌∙◌, subst, arith, append-nil, append_assoc, get_or, length, set, take, drop}
use Rattle.std.specs.List.{All}
use Rattle.std.proofs.Math.Nat.{div-lt_iff_lt-mul, le-div_iff_mul-le, min-le_left, mul-le-mul_right}
use Rattle.std.proofs.Math.Seq.{get_or-append_seam}
use Rattle.std.proofs.lemmas.Bool.Decides.{nat_tests}
use Rattle.std.proofs.lemmas.List.{drop_all, drop_more, length-drop, length-take, length-take-le, set_at, take_all, take_more, take-append-drop}
use Rattle.crossterm_style.specs.declared.content_style.ContentStyle.{ContentStyle}
use Rattle.screen.specs.declared.rects.Rect.{Rect}
use Rattle.screen.specs.Areas.{begins_in, span_has, styled, styled_from}
use Rattle.screen.specs.Cells.{AreLaidOut, ArePaired, Cell, IsPlaced, is_covered, is_wide}
use Rattle.screen.specs.Grids.{is_last}
use Rattle.screen.proofs.Laying.{StayFrom, all_cons, all_first, all_rest, from_rows, rows_from}
use Rattle.screen.proofs.Taking.{kept}

-- ---- the loop

out_by : (rows columns : Bool) (s : ContentStyle) (c : Cell) → rows ≡ false → cond (rows && columns) (record c { style = s }) c ≡ c
out_by true columns s c e = cc
out_by false columns s c e = refl

-- Cells in no row of the rectangle stay.
styled_out : (w : ℕ) (r : Rect) (s : ContentStyle) (at : ℕ) (cells : List Cell) → ((k : ℕ) → at ≤ k → k < at + length cells → span_has r.y r.height (k / w) ≡ false)
    → styled_from w r s at cells ≡ cells
styled_out w r s at [] out = refl
styled_out w r s at (c ∷ cells) out =
    let first : styled r s (at % w) (at / w) c ≡ c = out_by (span_has r.y r.height (at / w)) _ s c (out at (omega arith) (omega arith)) in
    ap (λ x. x ∷ styled_from w r s (at + 1) cells) first
    ∙ ap (λ l. c ∷ l) (styled_out w r s (at + 1) cells (λ k le lt. out k (omega (arith, le)) (omega (arith, lt))))

styled_joined : (w : ℕ) (r : Rect) (s : ContentStyle) (at n : ℕ) (xs ys : List Cell) → at + length xs ≡ n → styled_from w r s at (xs ++ ys) ≡ styled_from w r s at xs ++ styled_from w r s n ys
styled_joined w r s at n [] ys e = ap (λ k. styled_from w r s k ys) (omega (arith, e))
styled_joined w r s at n (x ∷ xs) ys e = ap (λ l. styled r s (at % w) (at / w) x ∷ l) (styled_joined w r s (at + 1) n xs ys (omega (arith, e)))

pub styled_length : (w : ℕ) (r : Rect) (s : ContentStyle) (at : ℕ) (cells : List Cell) → length (styled_from w r s at cells) ≡ length cells
styled_length w r s at [] = refl
styled_length w r s at (c ∷ cells) = ap (λ n. suc n) (styled_length w r s (at + 1) cells)

-- The cells before a place are styled, and the others are as they were.
abbrev pub IsStyled : ℕ → Rect → ContentStyle → List Cell → ℕ → List Cell → Type 0
IsStyled w r s old at cells = cells ≡ styled_from w r s 0 (take at old) ++ drop at old

some_width : (w y k : ℕ) → k < y * w → 0 < w
some_width zero y k lt = absurd (omega (arith, lt))
some_width (suc w) y k lt = omega arith

above_out : (first count row : ℕ) → row < first → span_has first count row ≡ false
above_out first count row lt = grind (arith, nat_tests)

-- The row behind the last row of the rectangle.
abbrev pub bottom : ℕ → Rect → ℕ
bottom height r = cond (nat_lt height (r.y + r.height)) height (r.y + r.height)

below_by : (few : Bool) (height first count row : ℕ) → nat_lt height (first + count) ≡ few → cond few height (first + count) ≤ row → row < height → span_has first count row ≡ false
below_by true height first count row e le lt = absurd (omega (arith, le, lt))
below_by false height first count row e le lt = grind (arith, nat_tests)

pub styled_start : (w : ℕ) (r : Rect) (s : ContentStyle) (old : List Cell) (at : ℕ) → at ≡ r.y * w → IsStyled w r s old at old
styled_start w r s old at e =
    let short : length (take at old) ≤ at = omega (arith, length-take at old, min-le_left at (length old)) in
    let out : (k : ℕ) → 0 ≤ k → k < 0 + length (take at old) → span_has r.y r.height (k / w) ≡ false = λ k le lt.
    let before : k < r.y * w = omega (arith, lt, short, e) in
    above_out r.y r.height (k / w) ((div-lt_iff_lt-mul (some_width w r.y k before)).1 before) in
    sym (ap (λ l. l ++ drop at old) (styled_out w r s 0 (take at old) out) ∙ take-append-drop at old)

-- A place within the rows is one of the cells.
few_by : (few : Bool) (height end : ℕ) → nat_lt height end ≡ few → cond few height end ≤ height
few_by true height end e = omega arith
few_by false height end e = grind (arith, nat_tests)

pub styled_inside : (w h : ℕ) (r : Rect) (old cells : List Cell) (at : ℕ) → length old ≡ w * h → length cells ≡ length old → at < bottom h r * w → at < length cells
styled_inside w h r old cells at whole size lt =
    let least : bottom h r * w ≤ h * w = mul-le-mul_right {m = bottom h r} {n = h} w (few_by (nat_lt h (r.y + r.height)) h (r.y + r.height) refl) in
    let turned : h * w ≡ w * h = grind arith in
    omega (arith, lt, least, turned, whole, size)

pub styled_more : (w : ℕ) (r : Rect) (s : ContentStyle) (old cells : List Cell) (at : ℕ) (d new : Cell) → at < length old → new ≡ styled r s (at % w) (at / w) (get_or cells at d) → IsStyled w r s old at cells
    → IsStyled w r s old (at + 1) (set cells at new)
styled_more w r s old cells at d new lt is before =
    let now : Cell → Cell = styled r s (at % w) (at / w) in
    let front = styled_from w r s 0 (take at old) in
    let back = drop (at + 1) old in
    let c = get_or old at d in
    let size : length (take at old) ≡ at = length-take-le at old (omega (arith, lt)) in
    let long : length front ≡ at = styled_length w r s 0 (take at old) ∙ size in
    let opened : cells ≡ front ++ (c ∷ back) = before ∙ ap (λ l. front ++ l) (drop_more old at d lt) in
    let same : get_or cells at d ≡ c = ap (λ l. get_or l at d) opened ∙ ap (λ n. get_or (front ++ c ∷ back) n d) (sym long) ∙ get_or-append_seam front c back d in
    let longer : styled_from w r s 0 (take (at + 1) old) ≡ front ++ now c ∷ [] =
    ap (styled_from w r s 0) (take_more old at d lt) ∙ styled_joined w r s 0 at (take at old) (c ∷ []) (omega (arith, size)) in
    ap (λ l. set l at new) opened ∙ set_at front c back new at long ∙ ap (λ x. front ++ x ∷ back) (is ∙ ap now same)
    ∙ sym (append_assoc front (now c ∷ []) back) ∙ ap (λ l. l ++ back) (sym longer)

-- The loop ends behind the last row, within the cells or behind them.
pub styled_end : (within : Bool) (w h : ℕ) (r : Rect) (s : ContentStyle) (old cells : List Cell) (at : ℕ) → nat_le at (length old) ≡ within → length old ≡ w * h → bottom h r * w ≤ at
    → IsStyled w r s old at cells → cells ≡ styled_from w r s 0 old
styled_end true w h r s old cells at e whole le before =
    let few : at ≤ length old = grind (arith, nat_tests) in
    let out : (k : ℕ) → at ≤ k → k < at + length (drop at old) → span_has r.y r.height (k / w) ≡ false = λ k from lt.
    let turned : w * h ≡ h * w = grind arith in
    let within : k < h * w = omega (arith, lt, length-drop at old, few, whole, turned) in
    let some = some_width w h k within in
    below_by (nat_lt h (r.y + r.height)) h r.y r.height (k / w) refl ((le-div_iff_mul-le some).1 (omega (arith, le, from))) ((div-lt_iff_lt-mul some).1 within) in
    before ∙ ap (λ l. styled_from w r s 0 (take at old) ++ l) (sym (styled_out w r s at (drop at old) out))
    ∙ sym (styled_joined w r s 0 at (take at old) (drop at old) (omega (arith, length-take-le at old few))) ∙ ap (styled_from w r s 0) (take-append-drop at old)
styled_end false w h r s old cells at e whole le before =
    let all : length old ≤ at = grind (arith, nat_tests) in
    before ∙ ap (λ l. styled_from w r s 0 l ++ drop at old) (take_all at old all) ∙ ap (λ l. styled_from w r s 0 old ++ l) (drop_all at old all)
    ∙ append-nil (styled_from w r s 0 old)

-- ---- cells stay laid out

placed_by : (b : Bool) (s : ContentStyle) (c : Cell) → IsPlaced c → IsPlaced (cond b (record c { style = s }) c)
placed_by true s c h = h
placed_by false s c h = h

styled_placed : (w : ℕ) (r : Rect) (s : ContentStyle) (at : ℕ) (cells : List Cell) → All IsPlaced cells → All IsPlaced (styled_from w r s at cells)
styled_placed w r s at [] all = all
styled_placed w r s at (c ∷ cells) all =
    all_cons (styled r s (at % w) (at / w) c) (styled_from w r s (at + 1) cells) (placed_by (begins_in r (at % w) (at / w) c) s c (all_first c cells all))
    (styled_placed w r s (at + 1) cells (all_rest c cells all))

paired_by : (b first : Bool) (s : ContentStyle) (c : Cell) (rest : List Cell) → is_covered c ≡ first → ArePaired (is_wide c) rest → ArePaired first (cond b (record c { style = s }) c ∷ rest)
paired_by true first s c rest e p = (e, p)
paired_by false first s c rest e p = (e, p)

styled_paired : (w : ℕ) (r : Rect) (s : ContentStyle) (first : Bool) (at : ℕ) (cells : List Cell) → ArePaired first cells → ArePaired first (styled_from w r s at cells)
styled_paired w r s first at [] p = p
styled_paired w r s first at (c ∷ cells) p =
    paired_by (begins_in r (at % w) (at / w) c) first s c (styled_from w r s (at + 1) cells) p.0 (styled_paired w r s (is_wide c) (at + 1) cells p.1)

stay_by : (b : Bool) (w at : ℕ) (s : ContentStyle) (c : Cell) → (is_wide c ≡ true → is_last w at ≡ false) → is_wide (cond b (record c { style = s }) c) ≡ true → is_last w at ≡ false
stay_by true w at s c h = h
stay_by false w at s c h = h

styled_stay : (w : ℕ) (r : Rect) (s : ContentStyle) (at : ℕ) (cells : List Cell) → StayFrom w at cells → StayFrom w at (styled_from w r s at cells)
styled_stay w r s at [] h = tt
styled_stay w r s at (c ∷ cells) h = (stay_by (begins_in r (at % w) (at / w) c) w at s c h.0, styled_stay w r s (at + 1) cells h.1)

-- Cells of a buffer stay laid out.
pub styled_kept : (w h n : ℕ) (r : Rect) (s : ContentStyle) (items old new : List Cell) → length items ≡ n → length items ≡ w * h → AreLaidOut w items → old ≡ items
    → new ≡ styled_from w r s 0 old → (length (take n (new ++ drop (length new) items)) ≡ w * h) × AreLaidOut w (take n (new ++ drop (length new) items))
styled_kept w h n r s items old new count whole laid is set =
    let now : new ≡ styled_from w r s 0 items = set ∙ ap (styled_from w r s 0) is in
    let there : AreLaidOut w (styled_from w r s 0 items) = record {
      placed = styled_placed w r s 0 items laid.placed;
      paired = styled_paired w r s false 0 items laid.paired;
      rows = from_rows w (styled_from w r s 0 items) (styled_stay w r s 0 items (rows_from w items laid.rows));
    } in
    kept w h n items new count whole (ap length now ∙ styled_length w r s 0 items) (subst (AreLaidOut w) (sym now) there)
