-- Cells of a grid, and how they are overwritten.
use Rattle.std.proofs.Common.{◌≡◌, ℕ, zero, suc, ◌+◌, ◌<◌, ◌≤◌, Bool, true, false, cond, List, [], ◌∷◌, ◌++◌, refl, sym, ap, ◌∙◌, subst, arith, length, map, take, drop, get_or, replicate}
use Rattle.std.proofs.lemmas.Bool.Decides.{nat_tests}
use Rattle.std.proofs.lemmas.List.{drop_more, get_or-map, length-map, take_at, take_more}
use Rattle.std.proofs.Math.Seq.{drop-append-add}
use Rattle.unicode_width.specs.Width.{char_width}
use Rattle.crossterm_command.specs.declared.color_output.ColorOutput.{ColorOutput}
use Rattle.crossterm_style.specs.Looks.{Style}
use Rattle.crossterm_style.specs.Styles.{no_style}
use Rattle.screen.specs.Cells.{ArePaired, Cell, blank, is_covered, is_wide, look, cell_look, shown_text}
use Rattle.screen.specs.Grids.{Square, begun, ended, overwritten, takes_two, without_first, without_second}
use Rattle.screen.specs.Grids.Square.{Whole, First, Second}
use Rattle.screen.specs.inside.Scans.{begins_covered, rest_from}

-- ---- kinds of cells

pub zero_takes_no_two : takes_two 0 ≡ false
unfolding char_width
zero_takes_no_two = refl

pub covered_is_narrow : (c : Cell) → is_covered c ≡ true → is_wide c ≡ false
covered_is_narrow c e =
    let z : c.symbol ≡ 0 = grind (arith, nat_tests) in
    ap takes_two z ∙ zero_takes_no_two

kept_end : (covered wide : Bool) (c : List ℕ) (s : Style) → wide ≡ false
    → without_second (cond covered Second (cond wide (First c s) (Whole c s))) ≡ cond covered Second (cond wide (First c s) (Whole c s))
kept_end true wide c s e = refl
kept_end false true c s e = cc
kept_end false false c s e = refl

kept_start : (covered wide : Bool) (c : List ℕ) (s : Style) → covered ≡ false
    → without_first (cond covered Second (cond wide (First c s) (Whole c s))) ≡ cond covered Second (cond wide (First c s) (Whole c s))
kept_start true wide c s e = cc
kept_start false true c s e = refl
kept_start false false c s e = refl

pub not_first : (colors : ColorOutput) (c : Cell) → is_wide c ≡ false → without_second (cell_look colors c) ≡ cell_look colors c
not_first colors c e = kept_end (is_covered c) (is_wide c) (shown_text c) (look colors c.style) e

pub not_second : (colors : ColorOutput) (c : Cell) → is_covered c ≡ false → without_first (cell_look colors c) ≡ cell_look colors c
not_second colors c e = kept_start (is_covered c) (is_wide c) (shown_text c) (look colors c.style) e

pub seen_covered : (colors : ColorOutput) (c : Cell) → is_covered c ≡ true → cell_look colors c ≡ Second
seen_covered colors c e = ap (λ b. cond b Second (cond (is_wide c) (First (shown_text c) (look colors c.style)) (Whole (shown_text c) (look colors c.style)))) e

-- The cells that a character takes.
abbrev pub squares : ColorOutput → Cell → List Square
squares colors c = cond (is_wide c) (First (shown_text c) (look colors c.style) ∷ Second ∷ []) (Whole (shown_text c) (look colors c.style) ∷ [])

pub seen_whole : (colors : ColorOutput) (c : Cell) → is_covered c ≡ false → is_wide c ≡ false → cell_look colors c ≡ Whole (shown_text c) (look colors c.style)
seen_whole colors c e w =
    ap (λ b. cond b Second (cond (is_wide c) (First (shown_text c) (look colors c.style)) (Whole (shown_text c) (look colors c.style)))) e
    ∙ ap (λ b. cond b (First (shown_text c) (look colors c.style)) (Whole (shown_text c) (look colors c.style))) w

pub seen_first : (colors : ColorOutput) (c : Cell) → is_covered c ≡ false → is_wide c ≡ true → cell_look colors c ≡ First (shown_text c) (look colors c.style)
seen_first colors c e w =
    ap (λ b. cond b Second (cond (is_wide c) (First (shown_text c) (look colors c.style)) (Whole (shown_text c) (look colors c.style)))) e
    ∙ ap (λ b. cond b (First (shown_text c) (look colors c.style)) (Whole (shown_text c) (look colors c.style))) w

-- ---- pairs

begins : (first : Bool) (cells : List Cell) → ArePaired first cells → begins_covered cells ≡ first
begins first [] p = sym p
begins first (c ∷ cells) p = p.0

pub begun_same : (colors : ColorOutput) (cells : List Cell) → ArePaired false cells → begun (map (cell_look colors) cells) ≡ map (cell_look colors) cells
begun_same colors [] p = refl
begun_same colors (c ∷ cells) p = ap (λ x. x ∷ map (cell_look colors) cells) (not_second colors c p.0)

second_there : (colors : ColorOutput) (cells : List Cell) → ArePaired true cells → map (cell_look colors) cells ≡ Second ∷ begun (drop 1 (map (cell_look colors) cells))
second_there colors [] p = cc
second_there colors (c ∷ cells) p =
    let after : ArePaired false cells = subst (λ b. ArePaired b cells) (covered_is_narrow c p.0) p.1 in
    ap (λ x. x ∷ map (cell_look colors) cells) (seen_covered colors c p.0) ∙ ap (λ l. Second ∷ l) (sym (begun_same colors cells after))

begun_drop : (xs : List Square) → drop 1 (begun xs) ≡ drop 1 xs
begun_drop [] = refl
begun_drop (x ∷ xs) = refl

begun_drop_two : (xs : List Square) → drop 2 (begun xs) ≡ drop 1 (drop 1 xs)
begun_drop_two [] = refl
begun_drop_two (x ∷ xs) = refl

-- ---- the cells from a place on

abbrev pub behind : Bool → List Square → List Square
behind first old = cond first (Second ∷ begun (drop 1 old)) (begun old)

pub rest_by : (first : Bool) (after : List Cell) (old : List Square) → ArePaired first after → rest_from after old ≡ behind first old
rest_by first after old p = ap (λ b. behind b old) (begins first after p)

-- If nothing changes, all cells stay as they were.
pub rest_same : (colors : ColorOutput) (first : Bool) (after before : List Cell) → ArePaired first after → ArePaired first before → rest_from after (map (cell_look colors) before) ≡ map (cell_look colors) before
rest_same colors false after before a b = rest_by false after (map (cell_look colors) before) a ∙ begun_same colors before b
rest_same colors true after before a b = rest_by true after (map (cell_look colors) before) a ∙ sym (second_there colors before b)

-- A covered cell is left.
pub rest_covered : (colors : ColorOutput) (c : Cell) (after : List Cell) (old : List Square) → is_covered c ≡ true → ArePaired (is_wide c) after
    → rest_from (c ∷ after) old ≡ cell_look colors c ∷ rest_from after (drop 1 old)
rest_covered colors c after old e p =
    let first : is_wide c ≡ false = covered_is_narrow c e in
    ap (λ b. behind b old) e
    ∙ ap (λ l. Second ∷ l) (sym (rest_by false after (drop 1 old) (subst (λ b. ArePaired b after) first p)))
    ∙ ap (λ x. x ∷ rest_from after (drop 1 old)) (sym (seen_covered colors c e))

-- A cell that is shown already is left.
pub rest_kept : (colors : ColorOutput) (c : Cell) (after before : List Cell) → is_covered c ≡ false → ArePaired (is_wide c) after → ArePaired (is_wide c) before
    → rest_from (c ∷ after) (cell_look colors c ∷ map (cell_look colors) before) ≡ cell_look colors c ∷ rest_from after (map (cell_look colors) before)
rest_kept colors c after before e a b =
    ap (λ f. behind f (cell_look colors c ∷ map (cell_look colors) before)) e ∙ ap (λ x. x ∷ map (cell_look colors) before) (not_second colors c e)
    ∙ ap (λ l. cell_look colors c ∷ l) (sym (rest_same colors (is_wide c) after before a b))

-- Cells that are overwritten behind others.
pub overwritten_behind : (cells front back others : List Square) (k : ℕ) → cells ≡ front ++ back → length front ≡ k → ended front ≡ front
    → overwritten cells k others ≡ front ++ (others ++ begun (drop (length others) back))
overwritten_behind cells front back others k e long whole =
    ap (λ l. overwritten l k others) e
    ∙ ap (λ l. ended l ++ (others ++ begun (drop (k + length others) (front ++ back)))) (take_at front back k long)
    ∙ ap (λ l. l ++ (others ++ begun (drop (k + length others) (front ++ back)))) whole
    ∙ ap (λ n. front ++ (others ++ begun (drop (n + length others) (front ++ back)))) (sym long)
    ∙ ap (λ l. front ++ (others ++ begun l)) (drop-append-add front back (length others))

-- A cell that is painted, with the cells behind it.
painted_by : (colors : ColorOutput) (first : Bool) (c : Cell) (front old : List Square) → is_covered c ≡ false → is_wide c ≡ first
    → front ++ (squares colors c ++ begun (drop (length (squares colors c)) (begun old))) ≡ front ++ (cell_look colors c ∷ behind first (drop 1 old))
painted_by colors false c front old e w =
    let one = Whole (shown_text c) (look colors c.style) in
    ap (λ b. front ++ (cond b (First (shown_text c) (look colors c.style) ∷ Second ∷ []) (one ∷ []) ++ begun (drop (length (cond b (First (shown_text c) (look colors c.style) ∷ Second ∷ []) (one ∷ []))) (begun old)))) w
    ∙ ap (λ l. front ++ (one ∷ begun l)) (begun_drop old)
    ∙ ap (λ x. front ++ (x ∷ begun (drop 1 old))) (sym (seen_whole colors c e w))
painted_by colors true c front old e w =
    let two = First (shown_text c) (look colors c.style) in
    ap (λ b. front ++ (cond b (two ∷ Second ∷ []) (Whole (shown_text c) (look colors c.style) ∷ []) ++ begun (drop (length (cond b (two ∷ Second ∷ []) (Whole (shown_text c) (look colors c.style) ∷ []))) (begun old)))) w
    ∙ ap (λ l. front ++ (two ∷ Second ∷ begun l)) (begun_drop_two old)
    ∙ ap (λ x. front ++ (x ∷ Second ∷ begun (drop 1 (drop 1 old)))) (sym (seen_first colors c e w))

pub rest_painted : (colors : ColorOutput) (c : Cell) (after : List Cell) (cells front old : List Square) (k : ℕ) → is_covered c ≡ false → ArePaired (is_wide c) after
    → cells ≡ front ++ rest_from (c ∷ after) old → length front ≡ k → ended front ≡ front
    → overwritten cells k (squares colors c) ≡ front ++ (cell_look colors c ∷ rest_from after (drop 1 old))
rest_painted colors c after cells front old k e p is long whole =
    overwritten_behind cells front (begun old) (squares colors c) k (is ∙ ap (λ b. front ++ behind b old) e) long whole
    ∙ painted_by colors (is_wide c) c front old e refl
    ∙ ap (λ l. front ++ (cell_look colors c ∷ l)) (sym (rest_by (is_wide c) after (drop 1 old) p))

-- ---- a place within cells

pub ended_push : (xs : List Square) (x : Square) → ended (xs ++ x ∷ []) ≡ xs ++ without_second x ∷ []
ended_push [] x = refl
ended_push (a ∷ []) x = refl
ended_push (a ∷ b ∷ xs) x = ap (λ l. a ∷ l) (ended_push (b ∷ xs) x)

-- The cells from the place `k` on are paired, and `first` is whether the cell before them is wide. If it isn't, the
-- cells before end with a whole character.
pub record At (colors : ColorOutput) (cells : List Cell) (k : ℕ) : Type 0 where
  pub first : Bool
  pub paired : ArePaired first (drop k cells)
  pub whole : first ≡ false → ended (take k (map (cell_look colors) cells)) ≡ take k (map (cell_look colors) cells)

pub opened : (cells : List Cell) (k : ℕ) (c : Cell) → k < length cells → get_or cells k c ≡ c → drop k cells ≡ c ∷ drop (k + 1) cells
opened cells k c lt e = drop_more cells k c lt ∙ ap (λ x. x ∷ drop (k + 1) cells) e

pub grown : (colors : ColorOutput) (cells : List Cell) (k : ℕ) (c : Cell) → k < length cells → get_or cells k c ≡ c
    → take (k + 1) (map (cell_look colors) cells) ≡ take k (map (cell_look colors) cells) ++ cell_look colors c ∷ []
grown colors cells k c lt e =
    take_more (map (cell_look colors) cells) k (cell_look colors c) (subst (λ n. k < n) (sym (length-map cells (cell_look colors))) lt)
    ∙ ap (λ x. take k (map (cell_look colors) cells) ++ x ∷ []) (get_or-map (cell_look colors) cells k c (cell_look colors c) lt ∙ ap (cell_look colors) e)

pub paired_next : (colors : ColorOutput) (cells : List Cell) (k : ℕ) (c : Cell) → k < length cells → get_or cells k c ≡ c → (at : At colors cells k)
    → (is_covered c ≡ at.first) × ArePaired (is_wide c) (drop (k + 1) cells)
paired_next colors cells k c lt e at = subst (ArePaired at.first) (opened cells k c lt e) at.paired

pub next : (colors : ColorOutput) (cells : List Cell) (k : ℕ) (c : Cell) → k < length cells → get_or cells k c ≡ c → At colors cells k → At colors cells (k + 1)
next colors cells k c lt e at =
    let pairs : (is_covered c ≡ at.first) × ArePaired (is_wide c) (drop (k + 1) cells) = paired_next colors cells k c lt e at in
    let more = grown colors cells k c lt e in
    record {
      first = is_wide c;
      paired = pairs.1;
      whole = λ w. ap ended more ∙ ended_push (take k (map (cell_look colors) cells)) (cell_look colors c)
          ∙ ap (λ x. take k (map (cell_look colors) cells) ++ x ∷ []) (not_first colors c w) ∙ sym more;
    }

same_default : (cells : List Cell) (k : ℕ) (d : Cell) → k < length cells → get_or cells k (get_or cells k d) ≡ get_or cells k d
same_default [] k d lt = absurd (omega (arith, lt))
same_default (c ∷ cells) zero d lt = refl
same_default (c ∷ cells) (suc k) d lt = same_default cells k d (omega (arith, lt))

pub at_place : (colors : ColorOutput) (cells : List Cell) → ArePaired false cells → (k : ℕ) → k ≤ length cells → At colors cells k
at_place colors cells p zero le = record { first = false; paired = p; whole = λ e. refl }
at_place colors cells p (suc k) le =
    let lt : k < length cells = omega (arith, le) in
    let more : k + 1 ≡ suc k = omega arith in
    subst (At colors cells) more (next colors cells k (get_or cells k blank) lt (same_default cells k blank lt) (at_place colors cells p k (omega (arith, le))))

second_by : (first : Bool) (cells : List Cell) (k : ℕ) → ArePaired first cells → k < length cells → is_covered (get_or cells (suc k) blank) ≡ is_wide (get_or cells k blank)
second_by first [] k p lt = absurd (omega (arith, lt))
second_by first (c ∷ []) zero p lt = sym p.1
second_by first (c ∷ d ∷ cells) zero p lt = p.1.0
second_by first (c ∷ cells) (suc k) p lt = second_by (is_wide c) cells k p.1 (omega (arith, lt))

-- The cell behind another one is covered if that one is wide, and no other is.
pub second_covered : (cells : List Cell) (k : ℕ) → ArePaired false cells → k < length cells → is_covered (get_or cells (k + 1) blank) ≡ is_wide (get_or cells k blank)
second_covered cells k p lt =
    let next : suc k ≡ k + 1 = omega arith in
    subst (λ n. is_covered (get_or cells n blank) ≡ is_wide (get_or cells k blank)) next (second_by false cells k p lt)

pub space_is_narrow : takes_two 32 ≡ false
unfolding char_width
space_is_narrow = refl

pub blank_seen : (colors : ColorOutput) → cell_look colors blank ≡ Whole (32 ∷ []) (look colors no_style)
blank_seen colors = seen_whole colors blank refl space_is_narrow

pub blanks_paired : (n : ℕ) → ArePaired false (replicate n blank)
blanks_paired zero = refl
blanks_paired (suc n) = (refl, subst (λ b. ArePaired b (replicate n blank)) (sym space_is_narrow) (blanks_paired n))

-- ---- how many cells there are

pub begun_length : (xs : List Square) → length (begun xs) ≡ length xs
begun_length [] = refl
begun_length (x ∷ xs) = refl

pub rest_length : (after : List Cell) (old : List Square) → length after ≡ length old → length (rest_from after old) ≡ length old
rest_length [] old e = begun_length old
rest_length (c ∷ after) [] e = absurd (omega (arith, e))
rest_length (c ∷ after) (x ∷ old) e =
    elim (is_covered c) as (λ b. length (behind b (x ∷ old)) ≡ length (x ∷ old)) [
      | true ↦ ap (λ n. suc n) (begun_length old)
      | false ↦ refl
    ]
