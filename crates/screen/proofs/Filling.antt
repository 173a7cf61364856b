-- Rows that are filled with a character of two columns.
use Rattle.std.proofs.Common.{◌≡◌, ℕ, zero, suc, ◌+◌, ◌*◌, ◌/◌, ◌%◌, ◌<◌, ◌==◌, Bool, true, false, cond, not, List, [], ◌∷◌, inl, refl, sym, ap, ◌∙◌, subst, arith, get_or, length, map, replicate, ◌++◌, take, drop}
use Rattle.std.specs.List.{range_with_len}
use Rattle.std.proofs.Math.Nat.{mod-add-div', mod-lt}
use Rattle.std.proofs.lemmas.Bool.Decides.{nat_tests}
use Rattle.std.proofs.lemmas.Nat.{mod-mul-add}
use Rattle.std.proofs.lemmas.List.{length-replicate}
use Rattle.std.proofs.lemmas.List.FromFn.{get_or-map-range_with_len, length-map-range_with_len}
use Rattle.crossterm_style.specs.declared.content_style.ContentStyle.{ContentStyle}
use Rattle.screen.specs.Buffers.{fill_cells, pair_cell}
use Rattle.screen.specs.Cells.{AreLaidOut, ArePaired, Cell, IsPrinted, IsPlaced, is_covered, is_wide}
use Rattle.screen.specs.Grids.{is_last, takes_two}
use Rattle.screen.specs.Overwriting.{covered}
use Rattle.screen.proofs.Fitting.{held_alone, held_placed, printed_there, same_laid_out, space_printed}
use Rattle.screen.proofs.Squares.{space_is_narrow, zero_takes_no_two}
use Rattle.screen.proofs.Taking.{kept}

-- ---- columns

abbrev is_odd : ℕ → Bool
is_odd column = column % 2 == 1

next_in_row : (a w : ℕ) → a % w + 1 < w → (a + 1) % w ≡ a % w + 1
next_in_row a w lt =
    let parts : a + 1 ≡ a / w * w + (a % w + 1) = omega (arith, mod-add-div' a w) in
    ap (λ n. n % w) parts ∙ mod-mul-add (a / w) w (a % w + 1) lt

next_row : (a w : ℕ) → 0 < w → a % w + 1 ≡ w → (a + 1) % w ≡ 0
next_row a w some e =
    let parts : a + 1 ≡ (a / w + 1) * w + 0 = grind (arith, mod-add-div' a w) in
    ap (λ n. n % w) parts ∙ mod-mul-add (a / w + 1) w 0 some

odd_next : (column : ℕ) → is_odd (column + 1) ≡ not (is_odd column)
odd_next column = grind (arith, nat_tests)

-- ---- a cell

abbrev pair_by : Bool → Bool → ℕ → ContentStyle → Cell
pair_by odd last c s = cond odd (covered s) (cond last (record { symbol = 32; marks = []; style = s }) (record { symbol = c; marks = []; style = s }))

pair_placed : (odd last : Bool) (c : ℕ) (s : ContentStyle) → IsPrinted c → IsPlaced (pair_by odd last c s)
pair_placed true last c s p = inl refl
pair_placed false true c s p = held_placed (record { symbol = 32; marks = []; style = s }) (held_alone 32 space_printed)
pair_placed false false c s p = held_placed (record { symbol = c; marks = []; style = s }) (held_alone c p)

pair_covered : (odd last : Bool) (c : ℕ) (s : ContentStyle) → IsPrinted c → is_covered (pair_by odd last c s) ≡ odd
pair_covered true last c s p = refl
pair_covered false true c s p = refl
pair_covered false false c s p = printed_there c p

pair_last : (odd last : Bool) (c : ℕ) (s : ContentStyle) → last ≡ true → is_wide (pair_by odd last c s) ≡ false
pair_last true last c s e = zero_takes_no_two
pair_last false true c s e = space_is_narrow
pair_last false false c s e = cc

pair_inner : (odd last : Bool) (c : ℕ) (s : ContentStyle) → takes_two c ≡ true → last ≡ false → is_wide (pair_by odd last c s) ≡ not odd
pair_inner true last c s two e = zero_takes_no_two
pair_inner false true c s two e = cc
pair_inner false false c s two e = two

-- Whether the next cell is covered.
wide_by : (last : Bool) (a w c : ℕ) (s : ContentStyle) → 0 < w → takes_two c ≡ true → (a % w + 1 == w) ≡ last → is_wide (pair_by (is_odd (a % w)) last c s) ≡ is_odd ((a + 1) % w)
wide_by true a w c s some two e =
    let end : a % w + 1 ≡ w = grind (arith, nat_tests) in
    pair_last (is_odd (a % w)) true c s refl ∙ sym (ap is_odd (next_row a w some end))
wide_by false a w c s some two e =
    let more : a % w + 1 < w = grind (arith, nat_tests, mod-lt a {m = w} some) in
    pair_inner (is_odd (a % w)) false c s two refl ∙ sym (ap is_odd (next_in_row a w more) ∙ odd_next (a % w))

-- ---- all cells

abbrev at : ℕ → ℕ → ContentStyle → ℕ → Cell
at w c s k = pair_cell w c s (k % w)

pairs : (w h a n c : ℕ) (s : ContentStyle) → 0 < w → a + n ≡ w * h → IsPrinted c → takes_two c ≡ true → ArePaired (is_odd (a % w)) (map (at w c s) (range_with_len a n))
pairs w h a zero c s some e p two =
    let whole : a ≡ h * w + 0 = grind arith in
    ap is_odd (ap (λ n. n % w) whole ∙ mod-mul-add h w 0 some)
pairs w h a (suc n) c s some e p two =
    let more : a + 1 + n ≡ w * h = omega (arith, e) in (
      pair_covered (is_odd (a % w)) (a % w + 1 == w) c s p,
      subst (λ f. ArePaired f (map (at w c s) (range_with_len (a + 1) n))) (sym (wide_by (a % w + 1 == w) a w c s some two refl)) (pairs w h (a + 1) n c s some more p two),
    )

stay_by : (last : Bool) (k w c : ℕ) (s : ContentStyle) → 0 < w → (k % w + 1 == w) ≡ last → is_wide (pair_by (is_odd (k % w)) last c s) ≡ true → is_last w k ≡ false
stay_by true k w c s some e wide = let no : true ≡ false = sym wide ∙ pair_last (is_odd (k % w)) true c s refl in cc
stay_by false k w c s some e wide =
    let more : k % w + 1 < w = grind (arith, nat_tests, mod-lt k {m = w} some) in
    ap (λ n. n == 0) (next_in_row k w more) ∙ grind (arith, nat_tests)

some_laid_out : (w h c : ℕ) (s : ContentStyle) → 0 < w → IsPrinted c → takes_two c ≡ true → AreLaidOut w (map (at w c s) (range_with_len 0 (w * h)))
some_laid_out w h c s some p two =
    let cells = map (at w c s) (range_with_len 0 (w * h)) in
    let is : (k : ℕ) (d : Cell) → k < length cells → get_or cells k d ≡ at w c s k =
    λ k d lt. get_or-map-range_with_len (at w c s) 0 (w * h) k k d (omega (arith, lt, length-map-range_with_len (at w c s) 0 (w * h))) (omega arith) in
    let nothing : 0 ≡ 0 * w + 0 = omega arith in
    let start : 0 % w ≡ 0 = ap (λ n. n % w) nothing ∙ mod-mul-add 0 w 0 some in
    record {
      placed = λ k d lt. subst IsPlaced (sym (is k d lt)) (pair_placed (is_odd (k % w)) (k % w + 1 == w) c s p);
      paired = subst (λ f. ArePaired f cells) (ap is_odd start) (pairs w h 0 (w * h) c s some (omega arith) p two);
      rows = λ k d lt e. stay_by (k % w + 1 == w) k w c s some refl (ap is_wide (sym (is k d lt)) ∙ e);
    }

none_laid_out : (w : ℕ) (cells : List Cell) → length cells ≡ 0 → AreLaidOut w cells
none_laid_out w [] e = record { placed = λ k d lt. absurd (omega (arith, lt)); paired = refl; rows = λ k d lt e. absurd (omega (arith, lt)) }
none_laid_out w (c ∷ cells) e = absurd (omega (arith, e))

pairs_laid_out : (w h c : ℕ) (s : ContentStyle) → IsPrinted c → takes_two c ≡ true → AreLaidOut w (map (at w c s) (range_with_len 0 (w * h)))
pairs_laid_out zero h c s p two = none_laid_out zero _ (length-map-range_with_len (at zero c s) 0 (zero * h) ∙ omega arith)
pairs_laid_out (suc w) h c s p two = some_laid_out (suc w) h c s (omega arith) p two

laid_by : (two : Bool) (w h c : ℕ) (s : ContentStyle) → IsPrinted c → takes_two c ≡ two → AreLaidOut w (cond two (map (at w c s) (range_with_len 0 (w * h))) (replicate (w * h) (record { symbol = c; marks = []; style = s })))
laid_by true w h c s p e = pairs_laid_out w h c s p e
laid_by false w h c s p e = same_laid_out (w * h) (record { symbol = c; marks = []; style = s }) (held_alone c p) e w

-- Rows that are filled with a character are laid out.
pub filled_laid_out : (w h c : ℕ) (s : ContentStyle) → IsPrinted c → AreLaidOut w (fill_cells w (w * h) c s)
filled_laid_out w h c s p = laid_by (takes_two c) w h c s p refl

length_by : (two : Bool) (w n c : ℕ) (s : ContentStyle) → length (cond two (map (at w c s) (range_with_len 0 n)) (replicate n (record { symbol = c; marks = []; style = s }))) ≡ n
length_by true w n c s = length-map-range_with_len (at w c s) 0 n
length_by false w n c s = length-replicate n _

pub filled_length : (w n c : ℕ) (s : ContentStyle) → length (fill_cells w n c s) ≡ n
filled_length w n c s = length_by (takes_two c) w n c s

-- So are all cells of a buffer.
pub fill_kept : (w h n c : ℕ) (s : ContentStyle) (items old new : List Cell) → length items ≡ n → length items ≡ w * h → old ≡ items → IsPrinted c → new ≡ fill_cells w (length old) c s
    → (length (take n (new ++ drop (length new) items)) ≡ w * h) × AreLaidOut w (take n (new ++ drop (length new) items))
fill_kept w h n c s items old new count whole same p filled =
    let now : new ≡ fill_cells w (w * h) c s = filled ∙ ap (λ l. fill_cells w (length l) c s) same ∙ ap (λ k. fill_cells w k c s) whole in
    kept w h n items new count whole (ap length now ∙ filled_length w (w * h) c s ∙ sym whole) (subst (AreLaidOut w) (sym now) (filled_laid_out w h c s p))
