-- Cells that are printed again in place of a move over them.
use Rattle.std.proofs.Common.{◌≡◌, ◌↔◌, inl, inr, ℕ, zero, suc, ◌+◌, ◌-◌, ◌*◌, ◌%◌, ◌<◌, ◌≤◌, ◌==◌, ◌⊎◌, Bool, true, false, cond, List, [], ◌∷◌, ◌++◌, Option, Some, None, refl, sym, ap, ◌∙◌, subst, arith, append_assoc, append-nil, drop, get_or, length, map, take}
use Rattle.std.specs.List.{All, AllByRecursion}
use Rattle.std.proofs.Math.Seq.{take-add}
use Rattle.std.proofs.lemmas.Bool.Decides.{nat_tests}
use Rattle.std.proofs.lemmas.List.{drop-map, drop_all, length-append, length-drop, length-map, length-take-le, take-append-drop, take-map, take_more}
use Rattle.std.proofs.lemmas.Nat.{mod-mul-add}
use Rattle.crossterm_command.specs.Tokens.Token.{Char}
use Rattle.crossterm_command.specs.declared.color_output.ColorOutput.{ColorOutput}
use Rattle.crossterm_command.proofs.Readings.{all_joined}
use Rattle.crossterm_style.specs.declared.content_style.ContentStyle.{ContentStyle}
use Rattle.screen.specs.declared.starts.Start.{Start}
use Rattle.screen.specs.declared.strokes.Stroke.{Stroke}
use Rattle.screen.specs.declared.strokes.Stroke.TheVariants as stroke
use Rattle.screen.specs.Cells.{ArePaired, Cell, FitsCell, IsPlaced, is_covered, is_wide, last_place, look, cell_look, shown_text}
use Rattle.screen.specs.Drawings.{ShowsCells, printed_count}
use Rattle.screen.specs.Grids.{Grid, Square, begun, ended, is_last, overwritten, right_of, run}
use Rattle.screen.specs.Grids.Square.{Unknown, Whole, First, Second}
use Rattle.screen.specs.Updates.{how_many}
use Rattle.screen.specs.inside.Bridges.{Approaches, IsBare, IsBridge}
use Rattle.screen.specs.inside.Scans.{CountsAll, ReachesPlace, rest_from}
use Rattle.screen.specs.inside.Strokes.{AreFitting, IsFitting, IsInner, again_strokes, tokens_of}
use Rattle.screen.proofs.Counts.{cell_printed, strokes_printed}
use Rattle.screen.proofs.Narrow.{low_takes_no_two}
use Rattle.screen.proofs.Runs.{printed_all, runs_then}
use Rattle.screen.proofs.Scans.{fitting_more, placed_held}
use Rattle.screen.proofs.Squares.{at_place, begun_same, ended_push, not_first, not_second, overwritten_behind, rest_by, seen_whole, squares}

-- ---- bare cells

bare_narrow : (s : ContentStyle) (c : Cell) → IsBare s c → is_wide c ≡ false
bare_narrow s c b = low_takes_no_two c.symbol (omega (arith, b.1))

bare_uncovered : (s : ContentStyle) (c : Cell) → IsBare s c → is_covered c ≡ false
bare_uncovered s c b = let low : 32 ≤ c.symbol = b.0 in grind (arith, nat_tests)

bare_square : (colors : ColorOutput) (s : ContentStyle) (c : Cell) → IsBare s c → squares colors c ≡ cell_look colors c ∷ []
bare_square colors s c b =
    let narrow : is_wide c ≡ false = bare_narrow s c b in
    ap (λ w. cond w (First (shown_text c) (look colors c.style) ∷ Second ∷ []) (Whole (shown_text c) (look colors c.style) ∷ [])) narrow
    ∙ ap (λ x. x ∷ []) (sym (seen_whole colors c (bare_uncovered s c b) narrow))

-- What holds of each cell holds of some of them.
all_of : {X : Type 0} (P : X → Type 0) (xs : List X) → All P xs → AllByRecursion P xs
all_of P [] a = tt
all_of P (x ∷ xs) a = (a 0 x (omega arith), all_of P xs (λ k d lt. a (suc k) d (omega (arith, lt))))

all_behind : {X : Type 0} (P : X → Type 0) (n : ℕ) (xs : List X) → AllByRecursion P xs → AllByRecursion P (drop n xs)
all_behind P zero xs a = a
all_behind P (suc n) [] a = tt
all_behind P (suc n) (x ∷ xs) a = all_behind P n xs a.1

all_front : {X : Type 0} (P : X → Type 0) (n : ℕ) (xs : List X) → AllByRecursion P xs → AllByRecursion P (take n xs)
all_front P zero xs a = tt
all_front P (suc n) [] a = tt
all_front P (suc n) (x ∷ xs) a = (a.0, all_front P n xs a.1)

-- One cell more is bare.
pub bare_more : (s : ContentStyle) (cells : List Cell) (k : ℕ) (c : Cell) → k < length cells → get_or cells k c ≡ c → IsBare s c → AllByRecursion (IsBare s) (take k cells) → AllByRecursion (IsBare s) (take (k + 1) cells)
bare_more s cells k c lt e b a =
    subst (AllByRecursion (IsBare s)) (sym (take_more cells k c lt ∙ ap (λ x. take k cells ++ x ∷ []) e)) (all_joined (IsBare s) (take k cells) (c ∷ []) a (b, tt))

-- ---- their strokes

pub again_inner : (cells : List Cell) → AllByRecursion IsInner (again_strokes cells)
again_inner [] = tt
again_inner (c ∷ cells) = (tt, again_inner cells)

again_fits : (cells : List Cell) → AllByRecursion (λ c. FitsCell (shown_text c)) cells → AllByRecursion IsFitting (again_strokes cells)
again_fits [] a = tt
again_fits (c ∷ cells) a = (a.0, again_fits cells a.1)

-- They are characters alone.
pub again_none : (kind : Stroke → Bool) → ((c : ℕ) (marks : List ℕ) → kind (stroke.Print c marks) ≡ false) → (cells : List Cell) → how_many kind (again_strokes cells) ≡ 0
again_none kind none [] = refl
again_none kind none (c ∷ cells) =
    ap (λ b. cond b (how_many kind (again_strokes cells) + 1) (how_many kind (again_strokes cells))) (none c.symbol c.marks) ∙ again_none kind none cells

again_prints : (colors : ColorOutput) (s : ContentStyle) (cells : List Cell) → AllByRecursion (IsBare s) cells → printed_count (tokens_of colors (again_strokes cells)) ≡ length cells
again_prints colors s [] a = refl
again_prints colors s (c ∷ cells) a =
    omega (arith, strokes_printed colors (stroke.Print c.symbol c.marks ∷ []) (again_strokes cells), cell_printed colors c, ap length a.0.2, again_prints colors s cells a.1)

pub strokes_more : (cells : List Cell) (k : ℕ) (c : Cell) → k < length cells → get_or cells k c ≡ c → again_strokes (take (k + 1) cells) ≡ again_strokes (take k cells) ++ (stroke.Print c.symbol c.marks ∷ [])
strokes_more cells k c lt e = ap again_strokes (take_more cells k c lt ∙ ap (λ x. take k cells ++ x ∷ []) e) ∙ joined (take k cells) c
  where
    joined : (xs : List Cell) (y : Cell) → again_strokes (xs ++ y ∷ []) ≡ again_strokes xs ++ (stroke.Print y.symbol y.marks ∷ [])
    joined [] y = refl
    joined (x ∷ xs) y = ap (λ l. stroke.Print x.symbol x.marks ∷ l) (joined xs y)

-- ---- what they do

-- A character that is begun anew stays so.
begun_twice : (xs : List Square) → begun (begun xs) ≡ begun xs
begun_twice [] = refl
begun_twice (Unknown ∷ xs) = refl
begun_twice (Whole t s ∷ xs) = refl
begun_twice (First t s ∷ xs) = refl
begun_twice (Second ∷ xs) = refl

begun_bare : (colors : ColorOutput) (s : ContentStyle) (cells : List Cell) (back : List Square) → AllByRecursion (IsBare s) cells → begun back ≡ back
    → begun (map (cell_look colors) cells ++ back) ≡ map (cell_look colors) cells ++ back
begun_bare colors s [] back a e = e
begun_bare colors s (c ∷ cells) back a e = ap (λ x. x ∷ (map (cell_look colors) cells ++ back)) (not_second colors c (bare_uncovered s c a.0))

-- A bare cell that is shown and is printed again: the cells stay.
prints_one : (colors : ColorOutput) (s : ContentStyle) (c : Cell) (at : ℕ) (front later : List Square) (g : Grid) → IsBare s c → FitsCell (shown_text c) → length front ≡ at → ended front ≡ front → begun later ≡ later
    → g.cells ≡ front ++ (cell_look colors c ∷ later) → right_of g.width at ≡ Some (at + 1) → g.cursor ≡ Some at → g.style ≡ look colors s
    → run (tokens_of colors (stroke.Print c.symbol c.marks ∷ [])) g ≡ Some (record g { cursor = Some (at + 1); printed = Some at })
prints_one colors s c at front later g b held long whole begins is inside cursor style =
    let narrow : is_wide c ≡ false = bare_narrow s c b in
    let look_c : g.style ≡ look colors c.style = style ∙ ap (look colors) (sym b.3) in
    let behind : at ≤ length g.cells = omega (arith, long, ap length is, length-append front (cell_look colors c ∷ later)) in
    let cells : overwritten g.cells at (squares colors c) ≡ g.cells =
    overwritten_behind g.cells front (cell_look colors c ∷ later) (squares colors c) at is long whole
    ∙ ap (λ l. front ++ (l ++ begun (drop (length l) (cell_look colors c ∷ later)))) (bare_square colors s c b)
    ∙ ap (λ l. front ++ (cell_look colors c ∷ l)) begins ∙ sym is in
    let next : right_of g.width (last_place at c) ≡ Some (at + 1) = ap (λ w. right_of g.width (cond w (at + 1) at)) narrow ∙ inside in
    ap (λ ts. run ts g) (append-nil (Char c.symbol ∷ map Char c.marks))
    ∙ printed_all colors c at g held (λ w. let no : true ≡ false = sym w ∙ narrow in cc) behind cursor look_c
    ∙ ap (λ l. Some (record g { cells = l; cursor = right_of g.width (last_place at c); style = look colors c.style; printed = Some at })) cells
    ∙ ap (λ o. Some (record g { cursor = o; style = look colors c.style; printed = Some at })) next
    ∙ ap (λ t. Some (record g { cursor = Some (at + 1); style = t; printed = Some at })) (sym look_c)

-- Bare cells that are shown and are printed again: the cursor goes behind them, and no more.
prints_all : (colors : ColorOutput) (s : ContentStyle) (cells : List Cell) (at : ℕ) (front back : List Square) (g : Grid) → AllByRecursion (IsBare s) cells → AllByRecursion (λ c. FitsCell (shown_text c)) cells
    → length front ≡ at → ended front ≡ front → begun back ≡ back → g.cells ≡ front ++ (map (cell_look colors) cells ++ back)
    → ((i : ℕ) → at ≤ i → i < at + length cells → right_of g.width i ≡ Some (i + 1)) → g.cursor ≡ Some at → g.style ≡ look colors s
    → (p : Option ℕ) × (run (tokens_of colors (again_strokes cells)) g ≡ Some (record g { cursor = Some (at + length cells); printed = p }))
prints_all colors s [] at front back g b held long whole begins is inside cursor style =
    let same : at ≡ at + 0 = omega arith in
    (g.printed, ap (λ o. Some (record g { cursor = o })) (cursor ∙ ap Some same))
prints_all colors s (c ∷ cells) at front back g b held long whole begins is inside cursor style =
    let later = map (cell_look colors) cells ++ back in
    let g1 : Grid = record g { cursor = Some (at + 1); printed = Some at } in
    let one : run (tokens_of colors (stroke.Print c.symbol c.marks ∷ [])) g ≡ Some g1 =
    prints_one colors s c at front later g b.0 held.0 long whole (begun_bare colors s cells back b.1 begins) is (inside at (omega arith) (omega arith)) cursor style in
    let longer : length (front ++ cell_look colors c ∷ []) ≡ at + 1 = length-append front (cell_look colors c ∷ []) ∙ omega (arith, long) in
    let wholly : ended (front ++ cell_look colors c ∷ []) ≡ front ++ cell_look colors c ∷ [] =
    ended_push front (cell_look colors c) ∙ ap (λ x. front ++ x ∷ []) (not_first colors c (bare_narrow s c b.0)) in
    let more = prints_all colors s cells (at + 1) (front ++ cell_look colors c ∷ []) back g1 b.1 held.1 longer wholly begins (is ∙ sym (append_assoc front (cell_look colors c ∷ []) later))
    (λ i from below. inside i (omega (arith, from)) (omega (arith, below))) refl style in
    let sum : at + 1 + length cells ≡ at + length (c ∷ cells) = omega arith in (
      more.0,
      runs_then colors (stroke.Print c.symbol c.marks ∷ []) (again_strokes cells) g g1 one ∙ more.1
          ∙ ap (λ n. Some (record g { cursor = Some n; printed = more.0 })) sum,
    )

-- ---- a bridge

-- A place that isn't the last one of its row.
inside_row : (width row column at from i : ℕ) → row * width + column ≡ at → column < width → at ≤ from + column → from ≤ i → i < at → right_of width i ≡ Some (i + 1)
inside_row width row column at from i is lt near le below =
    let r = i + 1 - row * width in
    let sum : i + 1 ≡ row * width + r = omega (arith, is, near, le) in
    let rest : (i + 1) % width ≡ r = ap (λ n. n % width) sum ∙ mod-mul-add row width r (omega (arith, is, lt, below)) in
    let there : 0 < r = omega (arith, is, near, le) in
    let not_last : is_last width i ≡ false = ap (λ n. n == 0) rest ∙ (let low : 0 < r = there in grind (arith, nat_tests)) in
    ap (λ b. cond b None (Some (i + 1))) not_last

-- How the cells between the cursor and a place lie in all cells.
pub record Crosses (colors : ColorOutput) (after : List Cell) (from at : ℕ) (cells : List Cell) : Type 0 where
  pub long : from + length cells ≡ at
  pub before : length (take from (map (cell_look colors) after)) ≡ from
  pub whole : ended (take from (map (cell_look colors) after)) ≡ take from (map (cell_look colors) after)
  pub shown : take at (map (cell_look colors) after) ≡ take from (map (cell_look colors) after) ++ map (cell_look colors) cells
  pub behind : ArePaired false (drop at after)
  pub held : AllByRecursion (λ c. FitsCell (shown_text c)) cells

bare_held : (s : ContentStyle) (cells : List Cell) → AllByRecursion (IsBare s) cells → AllByRecursion IsPlaced cells → AllByRecursion (λ c. FitsCell (shown_text c)) cells
bare_held s [] b p = tt
bare_held s (c ∷ cells) b p = (placed_held c (bare_uncovered s c b.0) p.0, bare_held s cells b.1 p.1)

-- Bare cells begin with one that isn't covered.
bare_first : (first : Bool) (s : ContentStyle) (cells rest : List Cell) → 0 < length cells → AllByRecursion (IsBare s) cells → ArePaired first (cells ++ rest) → first ≡ false
bare_first first s [] rest lt b p = absurd (omega (arith, lt))
bare_first first s (c ∷ cells) rest lt b p = sym p.0 ∙ bare_uncovered s c b.0

-- Behind bare cells all are paired.
bare_behind : (s : ContentStyle) (cells rest : List Cell) → AllByRecursion (IsBare s) cells → ArePaired false (cells ++ rest) → ArePaired false rest
bare_behind s [] rest b p = p
bare_behind s (c ∷ cells) rest b p = bare_behind s cells rest b.1 (subst (λ w. ArePaired w (cells ++ rest)) (bare_narrow s c b.0) p.1)

dropped : {X : Type 0} (m n : ℕ) (xs : List X) → drop n (drop m xs) ≡ drop (m + n) xs
dropped zero n xs = ap (λ k. drop k xs) (omega arith)
dropped (suc m) n [] = drop_all n [] (omega arith) ∙ sym (drop_all (suc m + n) [] (omega arith))
dropped (suc m) n (x ∷ xs) = dropped m n xs ∙ (let sum : suc (m + n) ≡ suc m + n = omega arith in ap (λ k. drop k (x ∷ xs)) sum)

crosses : (colors : ColorOutput) (after : List Cell) (from at : ℕ) (s : ContentStyle) (cells : List Cell) → ArePaired false after → All IsPlaced after → from < at → at ≤ length after
    → cells ≡ take (at - from) (drop from after) → AllByRecursion (IsBare s) cells → Crosses colors after from at cells
crosses colors after from at s cells pa fits lt le is bare =
    let n = at - from in
    let sum : from + n ≡ at = omega (arith, lt) in
    let new = map (cell_look colors) after in
    let place = at_place colors after pa from (omega (arith, lt, le)) in
    let count : length cells ≡ n = ap length is ∙ length-take-le n (drop from after) (omega (arith, length-drop from after, le)) in
    let rest : drop n (drop from after) ≡ drop at after = dropped from n after ∙ ap (λ k. drop k after) sum in
    let parts : drop from after ≡ cells ++ drop at after =
    sym (take-append-drop n (drop from after)) ∙ ap (λ l. l ++ drop n (drop from after)) (sym is) ∙ ap (λ l. cells ++ l) rest in
    let pairs : ArePaired place.first (cells ++ drop at after) = subst (ArePaired place.first) parts place.paired in
    let first : place.first ≡ false = bare_first place.first s cells (drop at after) (omega (arith, count, lt)) bare pairs in
    record {
      long = ap (λ k. from + k) count ∙ sum;
      before = length-take-le from new (omega (arith, length-map after (cell_look colors), lt, le));
      whole = place.whole first;
      shown = ap (λ k. take k new) (sym sum) ∙ take-add from n new
          ∙ ap (λ l. take from new ++ l) (ap (take n) (drop-map (cell_look colors) from after) ∙ take-map (cell_look colors) n (drop from after) ∙ ap (map (cell_look colors)) (sym is));
      behind = bare_behind s cells (drop at after) bare (subst (λ b. ArePaired b (cells ++ drop at after)) first pairs);
      held = bare_held s cells bare (subst (AllByRecursion IsPlaced) (sym is) (all_front IsPlaced n (drop from after) (all_behind IsPlaced from after (all_of IsPlaced after fits))));
    }

-- The strokes of a bridge: the cursor is at the place, and else all is as before.
crossed : (colors : ColorOutput) (width row column : ℕ) (after : List Cell) (cursor : Option ℕ) (style : Option ContentStyle) (at : ℕ) (cells : List Cell) (back : List Square) (g : Grid)
    → ArePaired false after → All IsPlaced after → at ≤ length after → row * width + column ≡ at → column < width → (b : IsBridge after cursor style at column cells)
    → g.width ≡ width → (begun back ≡ back) → g.cells ≡ take at (map (cell_look colors) after) ++ back
    → ((n : ℕ) → cursor ≡ Some n → g.cursor ≡ Some n) → ((s : ContentStyle) → style ≡ Some s → g.style ≡ look colors s)
    → (p : Option ℕ) × (run (tokens_of colors (again_strokes cells)) g ≡ Some (record g { cursor = Some at; printed = p }))
crossed colors width row column after cursor style at cells back g pa fits le is lt b wide begins shown place set =
    let c = crosses colors after b.from at b.set cells pa fits b.near.right le b.between b.bare in
    let front = take b.from (map (cell_look colors) after) in
    let all : g.cells ≡ front ++ (map (cell_look colors) cells ++ back) = shown ∙ ap (λ l. l ++ back) c.shown ∙ append_assoc front (map (cell_look colors) cells) back in
    let ran = prints_all colors b.set cells b.from front back g b.bare c.held c.before c.whole begins all
    (λ i from below. ap (λ w. right_of w i) wide ∙ inside_row width row column at b.from i is lt b.near.row from (omega (arith, below, c.long)))
    (place b.from b.known) (set b.set b.is_set) in
    (ran.0, ran.1 ∙ ap (λ n. Some (record g { cursor = Some n; printed = ran.0 })) c.long)

-- ---- how the cursor comes to a place

-- Nothing is printed again, and `there` is whether the cursor is at the place. Or few characters are printed again, and
-- it wasn't.
abbrev pub Comes : Option ℕ → ℕ → Bool → ℕ → Type 0
Comes cursor at there more = ((more ≡ 0) × ((there ≡ true) ↔ (cursor ≡ Some at))) ⊎ ((there ≡ true) × (more ≤ 3) × (cursor ≡ Some at → ⊥))

some_place : (x y : ℕ) → Some x ≡ Some y → x ≡ y
some_place x y e = ap (λ o. elim o [ None ↦ x | Some z ↦ z ]) e

bridge_count : (after : List Cell) (cursor : Option ℕ) (style : Option ContentStyle) (at column : ℕ) (cells : List Cell) → at ≤ length after → (b : IsBridge after cursor style at column cells) → length cells ≡ at - b.from
bridge_count after cursor style at column cells le b = ap length b.between ∙ length-take-le (at - b.from) (drop b.from after) (omega (arith, length-drop b.from after, le))

pub comes : (after : List Cell) (cursor : Option ℕ) (style : Option ContentStyle) (at column : ℕ) (cells : List Cell) (there : Bool) → at ≤ length after → Approaches after cursor style at column cells there → Comes cursor at there (length cells)
comes after cursor style at column cells there le (inl p) = inl (ap length p.0, p.1)
comes after cursor style at column cells there le (inr (y, b)) = inr (
  y,
  omega (arith, bridge_count after cursor style at column cells le b, b.near.short),
  λ e. let same : b.from ≡ at = some_place b.from at (sym b.known ∙ e) in omega (arith, same, b.near.right),
)

pub approach_fitting : (known : Start) (after : List Cell) (cursor : Option ℕ) (style : Option ContentStyle) (at column : ℕ) (cells : List Cell) (there : Bool) (strokes : List Stroke) → All IsPlaced after
    → Approaches after cursor style at column cells there → AreFitting known strokes → AreFitting known (strokes ++ again_strokes cells)
approach_fitting known after cursor style at column cells there strokes fits way all = fitting_more known strokes (again_strokes cells) all (each way)
  where
    each : Approaches after cursor style at column cells there → AllByRecursion IsFitting (again_strokes cells)
    each (inl p) = subst (λ l. AllByRecursion IsFitting (again_strokes l)) (sym p.0) tt
    each (inr (y, b)) = again_fits cells (bare_held b.set cells b.bare
        (subst (AllByRecursion IsPlaced) (sym b.between) (all_front IsPlaced (at - b.from) (drop b.from after) (all_behind IsPlaced b.from after (all_of IsPlaced after fits)))))

approach_prints : (colors : ColorOutput) (after : List Cell) (cursor : Option ℕ) (style : Option ContentStyle) (at column : ℕ) (cells : List Cell) (there : Bool) → Approaches after cursor style at column cells there
    → printed_count (tokens_of colors (again_strokes cells)) ≡ length cells
approach_prints colors after cursor style at column cells there (inl p) = subst (λ l. printed_count (tokens_of colors (again_strokes l)) ≡ length l) (sym p.0) refl
approach_prints colors after cursor style at column cells there (inr (y, b)) = again_prints colors b.set cells b.bare

pub approach_counted : (before shown after : List Cell) (again : ℕ) (cursor : Option ℕ) (style : Option ContentStyle) (at column : ℕ) (cells : List Cell) (there : Bool) (strokes : List Stroke)
    → Approaches after cursor style at column cells there → CountsAll before shown again strokes → CountsAll before shown (again + length cells) (strokes ++ again_strokes cells)
approach_counted before shown after again cursor style at column cells there strokes way counts colors =
    let (n, differ, count) = counts colors in (
      n,
      differ,
      omega (arith, count, strokes_printed colors strokes (again_strokes cells), approach_prints colors after cursor style at column cells there way),
    )

-- On the way over the cells.
pub approach_reaches : (known : Start) (width height row column : ℕ) (before after : List Cell) (at : ℕ) (cursor : Option ℕ) (style : Option ContentStyle) (strokes : List Stroke) (cells : List Cell) (there : Bool)
    → ArePaired false after → All IsPlaced after → at ≤ length after → row * width + column ≡ at → column < width → Approaches after cursor style at column cells there
    → ReachesPlace known width height before after at cursor style strokes
    → (to : Option ℕ) × (there ≡ true → to ≡ Some at) × ReachesPlace known width height before after at to style (strokes ++ again_strokes cells)
approach_reaches known width height row column before after at cursor style strokes cells there pa fits le is lt (inl p) reached = (
  cursor,
  p.1.0,
  subst (λ l. ReachesPlace known width height before after at cursor style (strokes ++ again_strokes l)) (sym p.0)
      (subst (ReachesPlace known width height before after at cursor style) (sym (append-nil strokes)) reached),
)
approach_reaches known width height row column before after at cursor style strokes cells there pa fits le is lt (inr (y, b)) reached = (
  Some at,
  λ e. refl,
  λ colors g s.
      let (h, ran, scanned) = reached colors g s in
      let old = map (cell_look colors) (drop at before) in
      let c = crosses colors after b.from at b.set cells pa fits b.near.right le b.between b.bare in
      let rest : rest_from (drop at after) old ≡ begun old = rest_by false (drop at after) old c.behind in
      let again = crossed colors width row column after cursor style at cells (begun old) h pa fits le is lt b scanned.size.0 (begun_twice old)
      (scanned.cells ∙ ap (λ l. take at (map (cell_look colors) after) ++ l) rest) scanned.place scanned.set in (
        record h { cursor = Some at; printed = again.0 },
        runs_then colors strokes (again_strokes cells) g h ran ∙ again.1,
        record { size = scanned.size; seen = scanned.seen; cells = scanned.cells; place = λ n e. e; set = scanned.set },
      ),
)

-- At the end of it.
pub approach_stops : (colors : ColorOutput) (width column : ℕ) (after : List Cell) (cursor : Option ℕ) (style : Option ContentStyle) (cells : List Cell) (there : Bool) (g : Grid)
    → ArePaired false after → All IsPlaced after → column ≤ length after → column < width → Approaches after cursor style column column cells there
    → g.width ≡ width → ShowsCells colors after g → ((n : ℕ) → cursor ≡ Some n → g.cursor ≡ Some n) → ((s : ContentStyle) → style ≡ Some s → g.style ≡ look colors s)
    → (at : Option ℕ) × (p : Option ℕ) × (to : Option ℕ) × (there ≡ true → to ≡ Some column) × ((n : ℕ) → to ≡ Some n → at ≡ Some n)
    × (run (tokens_of colors (again_strokes cells)) g ≡ Some (record g { cursor = at; printed = p }))
approach_stops colors width column after cursor style cells there g pa fits le lt (inl p) wide shown place set = (
  g.cursor,
  g.printed,
  cursor,
  p.1.0,
  place,
  ap (λ l. run (tokens_of colors (again_strokes l)) g) p.0,
)
approach_stops colors width column after cursor style cells there g pa fits le lt (inr (y, b)) wide shown place set =
    let new = map (cell_look colors) after in
    let c = crosses colors after b.from column b.set cells pa fits b.near.right le b.between b.bare in
    let first : 0 * width + column ≡ column = omega arith in
    let rest : begun (drop column new) ≡ drop column new =
    ap begun (drop-map (cell_look colors) column after) ∙ begun_same colors (drop column after) c.behind ∙ sym (drop-map (cell_look colors) column after) in
    let again = crossed colors width 0 column after cursor style column cells (drop column new) g pa fits le first lt b wide rest (shown ∙ sym (take-append-drop column new)) place set in
    (Some column, again.0, Some column, λ e. refl, λ n e. e, again.1)
