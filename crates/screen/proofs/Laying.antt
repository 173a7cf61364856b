-- Cells of rows, after some are overwritten.
use Rattle.std.proofs.Common.{◌≡◌, ℕ, zero, suc, ◌+◌, ◌<◌, ◌≤◌, Bool, true, false, cond, List, [], ◌∷◌, ◌++◌, inr, refl, sym, ap, ◌∙◌, subst, arith, get_or, length, take, drop}
use Rattle.std.specs.List.{All}
use Rattle.std.proofs.lemmas.List.{length-take-le, take-append-drop}
use Rattle.std.proofs.lemmas.List.Elements.{All-append, All-drop, All-take}
use Rattle.screen.specs.Cells.{AreLaidOut, ArePaired, Cell, IsPlaced, StayInRows, is_covered, is_wide}
use Rattle.screen.specs.Grids.{is_last}
use Rattle.screen.specs.Overwriting.{begun, emptied, ended, overwritten, without_first, without_second}
use Rattle.screen.proofs.Fitting.{held_alone, space_printed}
use Rattle.screen.proofs.Halves.{begun_there, begun_wide, ended_covered, ended_length, ended_narrow}

-- ---- each cell

cell_placed : (b : Bool) (c : Cell) → IsPlaced c → IsPlaced (cond b (emptied c) c)
cell_placed true c h = inr (refl, held_alone 32 space_printed)
cell_placed false c h = h

pub all_cons : (c : Cell) (cells : List Cell) → IsPlaced c → All IsPlaced cells → All IsPlaced (c ∷ cells)
all_cons c cells h all zero d lt = h
all_cons c cells h all (suc k) d lt = all k d (omega (arith, lt))

pub all_rest : (c : Cell) (cells : List Cell) → All IsPlaced (c ∷ cells) → All IsPlaced cells
all_rest c cells all k d lt = all (suc k) d (omega (arith, lt))

pub all_first : (c : Cell) (cells : List Cell) → All IsPlaced (c ∷ cells) → IsPlaced c
all_first c cells all = all zero c (omega arith)

ended_placed : (xs : List Cell) → All IsPlaced xs → All IsPlaced (ended xs)
ended_placed [] all = all
ended_placed (x ∷ []) all = all_cons (without_second x) [] (cell_placed (is_wide x) x (all_first x [] all)) (all_rest x [] all)
ended_placed (x ∷ y ∷ xs) all = all_cons x (ended (y ∷ xs)) (all_first x (y ∷ xs) all) (ended_placed (y ∷ xs) (all_rest x (y ∷ xs) all))

begun_placed : (xs : List Cell) → All IsPlaced xs → All IsPlaced (begun xs)
begun_placed [] all = all
begun_placed (x ∷ xs) all = all_cons (without_first x) xs (cell_placed (is_covered x) x (all_first x xs all)) (all_rest x xs all)

-- ---- pairs

pub paired_joined : (first : Bool) (xs ys : List Cell) → ArePaired first xs → ArePaired false ys → ArePaired first (xs ++ ys)
paired_joined first [] ys p q = subst (λ f. ArePaired f ys) (sym p) q
paired_joined first (x ∷ xs) ys p q = (p.0, paired_joined (is_wide x) xs ys p.1 q)

ended_paired : (first : Bool) (x : Cell) (xs zs ys : List Cell) → ArePaired first ((x ∷ xs) ++ zs) → ArePaired false ys → ArePaired first (ended (x ∷ xs) ++ ys)
ended_paired first x [] zs ys p q = (ended_covered x ∙ p.0, subst (λ f. ArePaired f ys) (sym (ended_narrow x)) q)
ended_paired first x (y ∷ xs) zs ys p q = (p.0, ended_paired (is_wide x) y xs zs ys p.1 q)

front_paired : (xs zs ys : List Cell) → ArePaired false (xs ++ zs) → ArePaired false ys → ArePaired false (ended xs ++ ys)
front_paired [] zs ys p q = q
front_paired (x ∷ xs) zs ys p q = ended_paired false x xs zs ys p q

begun_paired : (first : Bool) (cells : List Cell) → ArePaired first cells → ArePaired false (begun cells)
begun_paired first [] p = refl
begun_paired first (c ∷ cells) p = (begun_there c, subst (λ f. ArePaired f cells) (sym (begun_wide c)) p.1)

back_paired : (first : Bool) (n : ℕ) (cells : List Cell) → ArePaired first cells → ArePaired false (begun (drop n cells))
back_paired first zero cells p = begun_paired first cells p
back_paired first (suc n) [] p = refl
back_paired first (suc n) (c ∷ cells) p = back_paired (is_wide c) n cells p.1

-- ---- rows

-- From a place on, no character begins in a row's last cell and goes on in the next row.
abbrev pub StayFrom : ℕ → ℕ → List Cell → Type 0
StayFrom width at [] = Unit {0}
StayFrom width at (c ∷ cells) = (is_wide c ≡ true → is_last width at ≡ false) × StayFrom width (at + 1) cells

stay_from : (width at : ℕ) (cells : List Cell) → ((k : ℕ) (d : Cell) → k < length cells → is_wide (get_or cells k d) ≡ true → is_last width (at + k) ≡ false) → StayFrom width at cells
stay_from width at [] h = tt
stay_from width at (c ∷ cells) h =
    let none : at + 0 ≡ at = omega arith in (
      λ w. ap (is_last width) (sym none) ∙ h 0 c (omega arith) w,
      stay_from width (at + 1) cells (λ k d lt w. let more : at + 1 + k ≡ at + suc k = omega arith in ap (is_last width) more ∙ h (suc k) d (omega (arith, lt)) w),
    )

stay_at : (width at : ℕ) (cells : List Cell) → StayFrom width at cells → (k : ℕ) (d : Cell) → k < length cells → is_wide (get_or cells k d) ≡ true → is_last width (at + k) ≡ false
stay_at width at [] s k d lt w = absurd (omega (arith, lt))
stay_at width at (c ∷ cells) s zero d lt w = let none : at + 0 ≡ at = omega arith in ap (is_last width) none ∙ s.0 w
stay_at width at (c ∷ cells) s (suc k) d lt w =
    let more : at + suc k ≡ at + 1 + k = omega arith in ap (is_last width) more ∙ stay_at width (at + 1) cells s.1 k d (omega (arith, lt)) w

stay_front : (width at : ℕ) (xs zs : List Cell) → StayFrom width at (xs ++ zs) → StayFrom width at xs
stay_front width at [] zs s = tt
stay_front width at (x ∷ xs) zs s = (s.0, stay_front width (at + 1) xs zs s.1)

stay_back : (width at n : ℕ) (cells : List Cell) → StayFrom width at cells → StayFrom width (at + n) (drop n cells)
stay_back width at zero cells s = let none : at ≡ at + 0 = omega arith in subst (λ k. StayFrom width k cells) none s
stay_back width at (suc n) [] s = tt
stay_back width at (suc n) (c ∷ cells) s =
    let more : at + 1 + n ≡ at + suc n = omega arith in subst (λ k. StayFrom width k (drop n cells)) more (stay_back width (at + 1) n cells s.1)

pub stay_joined : (width at : ℕ) (xs ys : List Cell) → StayFrom width at xs → StayFrom width (at + length xs) ys → StayFrom width at (xs ++ ys)
stay_joined width at [] ys s t = let none : at + 0 ≡ at = omega arith in subst (λ k. StayFrom width k ys) none t
stay_joined width at (x ∷ xs) ys s t =
    let more : at + suc (length xs) ≡ at + 1 + length xs = omega arith in (s.0, stay_joined width (at + 1) xs ys s.1 (subst (λ k. StayFrom width k ys) more t))

stay_ended : (width at : ℕ) (xs : List Cell) → StayFrom width at xs → StayFrom width at (ended xs)
stay_ended width at [] s = tt
stay_ended width at (x ∷ []) s = (λ w. let no : false ≡ true = sym (ended_narrow x) ∙ w in cc, tt)
stay_ended width at (x ∷ y ∷ xs) s = (s.0, stay_ended width (at + 1) (y ∷ xs) s.1)

stay_begun : (width at : ℕ) (xs : List Cell) → StayFrom width at xs → StayFrom width at (begun xs)
stay_begun width at [] s = tt
stay_begun width at (x ∷ xs) s = (λ w. s.0 (sym (begun_wide x) ∙ w), s.1)

pub rows_from : (width : ℕ) (cells : List Cell) → StayInRows width cells → StayFrom width 0 cells
rows_from width cells s = stay_from width 0 cells (λ k d lt w. let none : 0 + k ≡ k = omega arith in ap (is_last width) none ∙ s k d lt w)

pub from_rows : (width : ℕ) (cells : List Cell) → StayFrom width 0 cells → StayInRows width cells
from_rows width cells s k d lt w = let none : k ≡ 0 + k = omega arith in ap (is_last width) none ∙ stay_at width 0 cells s k d lt w

-- ---- all of it

-- Cells that are overwritten stay laid out.
pub overwritten_laid_out : (width at : ℕ) (cells others : List Cell) → at + length others ≤ length cells → AreLaidOut width cells
    → All IsPlaced others → ArePaired false others → StayFrom width at others → AreLaidOut width (overwritten cells at others)
overwritten_laid_out width at cells [] le laid placed paired rows = laid
overwritten_laid_out width at cells (x ∷ xs) le laid placed paired rows =
    let others = x ∷ xs in
    let n = at + length others in
    let front = take at cells in
    let back = drop n cells in
    let whole : cells ≡ front ++ drop at cells = sym (take-append-drop at cells) in
    let split : ArePaired false (front ++ drop at cells) = subst (ArePaired false) whole laid.paired in
    let long : length (ended front) ≡ at = ended_length front ∙ length-take-le at cells (omega (arith, le)) in
    let stay = rows_from width cells laid.rows in
    let stay_split : StayFrom width 0 (front ++ drop at cells) = subst (StayFrom width 0) whole stay in
    let start : at ≡ 0 + length (ended front) = omega (arith, long) in
    let behind : 0 + n ≡ at + length others = omega arith in
    record {
      placed = All-append IsPlaced (ended front) (others ++ begun back) (ended_placed front (All-take IsPlaced at cells laid.placed))
          (All-append IsPlaced others (begun back) placed (begun_placed back (All-drop IsPlaced n cells laid.placed)));
      paired = front_paired front (drop at cells) (others ++ begun back) split
          (paired_joined false others (begun back) paired (back_paired false n cells laid.paired));
      rows = from_rows width _ (stay_joined width 0 (ended front) (others ++ begun back) (stay_ended width 0 front (stay_front width 0 front (drop at cells) stay_split))
          (subst (λ k. StayFrom width k (others ++ begun back)) start
          (stay_joined width at others (begun back) rows (stay_begun width (at + length others) back (subst (λ k. StayFrom width k back) behind (stay_back width 0 n cells stay))))));
    }
