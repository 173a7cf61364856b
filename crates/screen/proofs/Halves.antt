-- Cells that are overwritten.
use Rattle.std.proofs.Common.{◌≡◌, ℕ, suc, ◌+◌, ◌-◌, ◌<◌, ◌≤◌, Bool, true, false, cond, List, [], ◌∷◌, ◌++◌, refl, sym, ap, ◌∙◌, arith, append-nil, append_assoc, get_or, length, set, take, drop}
use Rattle.std.proofs.lemmas.List.{drop-drop, drop_more, length-append, length-drop, length-take-le, set_at, take-append-drop, take_at, take_more}
use Rattle.std.proofs.Math.Seq.{drop-append-add}
use Rattle.screen.specs.Cells.{ArePaired, Cell, is_covered, is_wide}
use Rattle.screen.specs.Overwriting.{begun, emptied, ended, overwritten, without_first, without_second}
use Rattle.screen.proofs.Squares.{covered_is_narrow, space_is_narrow}

-- ---- halves

narrow_by : (b : Bool) (c : Cell) → is_wide c ≡ b → is_wide (cond b (emptied c) c) ≡ false
narrow_by true c e = space_is_narrow
narrow_by false c e = e

-- The cell before one that is overwritten has no second one.
pub ended_narrow : (c : Cell) → is_wide (without_second c) ≡ false
ended_narrow c = narrow_by (is_wide c) c refl

there_by : (b : Bool) (c : Cell) → is_covered c ≡ b → is_covered (cond b (emptied c) c) ≡ false
there_by true c e = refl
there_by false c e = e

-- The cell behind one that is overwritten isn't covered.
pub begun_there : (c : Cell) → is_covered (without_first c) ≡ false
begun_there c = there_by (is_covered c) c refl

wide_there_by : (b : Bool) (c : Cell) → is_covered c ≡ b → is_wide c ≡ true → b ≡ false
wide_there_by true c e w = let no : true ≡ false = sym w ∙ covered_is_narrow c e in no
wide_there_by false c e w = refl

covered_by : (b : Bool) (c : Cell) → is_wide c ≡ b → is_covered (cond b (emptied c) c) ≡ is_covered c
covered_by true c w = sym (wide_there_by (is_covered c) c refl w)
covered_by false c w = refl

pub ended_covered : (c : Cell) → is_covered (without_second c) ≡ is_covered c
ended_covered c = covered_by (is_wide c) c refl

wide_by : (b : Bool) (c : Cell) → is_covered c ≡ b → is_wide (cond b (emptied c) c) ≡ is_wide c
wide_by true c e = space_is_narrow ∙ sym (covered_is_narrow c e)
wide_by false c e = refl

pub begun_wide : (c : Cell) → is_wide (without_first c) ≡ is_wide c
begun_wide c = wide_by (is_covered c) c refl

narrow_kept : (b : Bool) (c : Cell) → b ≡ false → cond b (emptied c) c ≡ c
narrow_kept b c e = ap (λ f. cond f (emptied c) c) e

-- ---- before and behind

pub ended_length : (xs : List Cell) → length (ended xs) ≡ length xs
ended_length [] = refl
ended_length (x ∷ []) = refl
ended_length (x ∷ y ∷ xs) = ap (λ n. suc n) (ended_length (y ∷ xs))

begun_length : (xs : List Cell) → length (begun xs) ≡ length xs
begun_length [] = refl
begun_length (x ∷ xs) = refl

ended_push : (xs : List Cell) (x : Cell) → ended (xs ++ x ∷ []) ≡ xs ++ without_second x ∷ []
ended_push [] x = refl
ended_push (a ∷ []) x = refl
ended_push (a ∷ b ∷ xs) x = ap (λ l. a ∷ l) (ended_push (b ∷ xs) x)

ended_behind : (front : List Cell) (x : Cell) (xs : List Cell) → ended (front ++ x ∷ xs) ≡ front ++ ended (x ∷ xs)
ended_behind [] x xs = refl
ended_behind (a ∷ []) x xs = refl
ended_behind (a ∷ b ∷ front) x xs = ap (λ l. a ∷ l) (ended_behind (b ∷ front) x xs)

-- Cells that end with a whole character stay.
ended_whole : (first : Bool) (xs : List Cell) → ArePaired first xs → ended xs ≡ xs
ended_whole first [] p = refl
ended_whole first (x ∷ []) p = ap (λ y. y ∷ []) (narrow_kept (is_wide x) x p.1)
ended_whole first (x ∷ y ∷ xs) p = ap (λ l. x ∷ l) (ended_whole (is_wide x) (y ∷ xs) p.1)

drop_begun : (n : ℕ) (xs : List Cell) → drop (suc n) (begun xs) ≡ drop (suc n) xs
drop_begun n [] = refl
drop_begun n (x ∷ xs) = refl

-- ---- one cell

-- What is ended at a place is one cell that is set.
pub ended_at : (cells : List Cell) (at : ℕ) (c : Cell) → at < length cells → get_or cells at c ≡ c
    → ended (take (at + 1) cells) ++ drop (at + 1) cells ≡ set cells at (without_second c)
ended_at cells at c lt e =
    let front = take at cells in
    let back = drop (at + 1) cells in
    let whole : cells ≡ front ++ c ∷ back = sym (take-append-drop at cells) ∙ ap (λ l. front ++ l) (drop_more cells at c lt ∙ ap (λ d. d ∷ back) e) in
    let long : length front ≡ at = length-take-le at cells (omega (arith, lt)) in
    ap (λ l. ended l ++ back) (take_more cells at c lt ∙ ap (λ d. front ++ d ∷ []) e) ∙ ap (λ l. l ++ back) (ended_push front c)
    ∙ append_assoc front (without_second c ∷ []) back ∙ sym (ap (λ l. set l at (without_second c)) whole ∙ set_at front c back (without_second c) at long)

-- So is what is begun.
pub begun_at : (cells : List Cell) (at : ℕ) (c : Cell) → at < length cells → get_or cells at c ≡ c
    → take at cells ++ begun (drop at cells) ≡ set cells at (without_first c)
begun_at cells at c lt e =
    let front = take at cells in
    let back = drop (at + 1) cells in
    let opened : drop at cells ≡ c ∷ back = drop_more cells at c lt ∙ ap (λ d. d ∷ back) e in
    let whole : cells ≡ front ++ c ∷ back = sym (take-append-drop at cells) ∙ ap (λ l. front ++ l) opened in
    let long : length front ≡ at = length-take-le at cells (omega (arith, lt)) in
    ap (λ l. front ++ begun l) opened ∙ sym (ap (λ l. set l at (without_first c)) whole ∙ set_at front c back (without_first c) at long)

-- ---- a character

-- Cells with others between them.
between : (front xs back : List Cell) (at n : ℕ) → length front ≡ at → length xs ≡ n → take (at + n) (front ++ (xs ++ back)) ≡ front ++ xs
between front xs back at n long size =
    ap (take (at + n)) (sym (append_assoc front xs back)) ∙ take_at (front ++ xs) back (at + n) (length-append front xs ∙ ap (λ m. m + length xs) long ∙ ap (λ m. at + m) size)

past : (front back : List Cell) (at n : ℕ) → length front ≡ at → drop (at + n) (front ++ back) ≡ drop n back
past front back at n long = ap (λ m. drop (m + n) (front ++ back)) (sym long) ∙ drop-append-add front back n

-- Cells that were ended and begun at their two places, and then set one by one.
pub one_set : (cells first second : List Cell) (at : ℕ) (c : Cell) → at + 1 ≤ length cells → first ≡ ended (take at cells) ++ drop at cells
    → second ≡ take (at + 1) first ++ begun (drop (at + 1) first) → set second at c ≡ ended (take at cells) ++ (c ∷ begun (drop (at + 1) cells))
one_set cells first second at c le a b =
    let front = ended (take at cells) in
    let old = get_or cells at c in
    let back = drop (at + 1) cells in
    let long : length front ≡ at = ended_length (take at cells) ∙ length-take-le at cells (omega (arith, le)) in
    let opened : first ≡ front ++ (old ∷ [] ++ back) = a ∙ ap (λ l. front ++ l) (drop_more cells at c (omega (arith, le))) in
    let back_is : drop (at + 1) first ≡ back = ap (drop (at + 1)) opened ∙ past front (old ∷ back) at 1 long in
    let front_is : take (at + 1) first ≡ front ++ old ∷ [] = ap (take (at + 1)) opened ∙ between front (old ∷ []) back at 1 long refl in
    let joined : second ≡ front ++ (old ∷ begun back) =
    b ∙ ap (λ l. l ++ begun (drop (at + 1) first)) front_is ∙ ap (λ l. (front ++ old ∷ []) ++ begun l) back_is ∙ append_assoc front (old ∷ []) (begun back) in
    ap (λ l. set l at c) joined ∙ set_at front old (begun back) c at long

pub two_set : (cells first second : List Cell) (at : ℕ) (c d : Cell) → at + 2 ≤ length cells → first ≡ ended (take at cells) ++ drop at cells
    → second ≡ take (at + 2) first ++ begun (drop (at + 2) first) → set (set second at c) (at + 1) d ≡ ended (take at cells) ++ (c ∷ d ∷ begun (drop (at + 2) cells))
two_set cells first second at c d le a b =
    let front = ended (take at cells) in
    let old = get_or cells at c in
    let next = get_or cells (at + 1) d in
    let back = drop (at + 2) cells in
    let long : length front ≡ at = ended_length (take at cells) ∙ length-take-le at cells (omega (arith, le)) in
    let two : drop (at + 1) cells ≡ next ∷ back = drop_more cells (at + 1) d (omega (arith, le)) ∙ ap (λ n. next ∷ drop n cells) (omega arith) in
    let opened : first ≡ front ++ (old ∷ next ∷ [] ++ back) = a ∙ ap (λ l. front ++ l) (drop_more cells at c (omega (arith, le)) ∙ ap (λ l. old ∷ l) two) in
    let back_is : drop (at + 2) first ≡ back = ap (drop (at + 2)) opened ∙ past front (old ∷ next ∷ back) at 2 long in
    let front_is : take (at + 2) first ≡ front ++ old ∷ next ∷ [] = ap (take (at + 2)) opened ∙ between front (old ∷ next ∷ []) back at 2 long refl in
    let joined : second ≡ front ++ (old ∷ next ∷ begun back) =
    b ∙ ap (λ l. l ++ begun (drop (at + 2) first)) front_is ∙ ap (λ l. (front ++ old ∷ next ∷ []) ++ begun l) back_is ∙ append_assoc front (old ∷ next ∷ []) (begun back) in
    let longer : length (front ++ c ∷ []) ≡ at + 1 = length-append front (c ∷ []) ∙ ap (λ n. n + 1) long in
    ap (λ l. set (set l at c) (at + 1) d) joined ∙ ap (λ l. set l (at + 1) d) (set_at front old (next ∷ begun back) c at long)
    ∙ ap (λ l. set l (at + 1) d) (sym (append_assoc front (c ∷ []) (next ∷ begun back)))
    ∙ set_at (front ++ c ∷ []) next (begun back) d (at + 1) longer ∙ append_assoc front (c ∷ []) (d ∷ begun back)

-- ---- one after the other

-- Cells that are overwritten by some, and behind these by others, are overwritten by both.
more_by : (cells xs ys : List Cell) (x y : Cell) (at : ℕ) → at + length (x ∷ xs) + length (y ∷ ys) ≤ length cells → ArePaired false (x ∷ xs)
    → overwritten (overwritten cells at (x ∷ xs)) (at + length (x ∷ xs)) (y ∷ ys) ≡ overwritten cells at ((x ∷ xs) ++ y ∷ ys)
more_by cells xs ys x y at le p =
    let n = length (x ∷ xs) in
    let m = length (y ∷ ys) in
    let front = ended (take at cells) in
    let back = begun (drop (at + n) cells) in
    let long : length front ≡ at = ended_length (take at cells) ∙ length-take-le at cells (omega (arith, le)) in
    let once : List Cell = front ++ ((x ∷ xs) ++ back) in
    let before : ended (take (at + n) once) ≡ front ++ (x ∷ xs) =
    ap ended (between front (x ∷ xs) back at n long refl) ∙ ended_behind front x xs ∙ ap (λ l. front ++ l) (ended_whole false (x ∷ xs) p) in
    let far : length (front ++ (x ∷ xs)) ≡ at + n = length-append front (x ∷ xs) ∙ ap (λ k. k + n) long in
    let behind : drop (at + n + m) once ≡ drop (at + n + m) cells =
    ap (drop (at + n + m)) (sym (append_assoc front (x ∷ xs) back)) ∙ past (front ++ (x ∷ xs)) back (at + n) m far
    ∙ drop_begun (length ys) (drop (at + n) cells) ∙ drop-drop m (at + n) cells in
    let size : at + length ((x ∷ xs) ++ y ∷ ys) ≡ at + n + m = ap (λ k. at + k) (length-append (x ∷ xs) (y ∷ ys)) ∙ omega arith in
    ap (λ l. l ++ ((y ∷ ys) ++ begun (drop (at + n + m) once))) before
    ∙ ap (λ l. (front ++ (x ∷ xs)) ++ ((y ∷ ys) ++ begun l)) behind
    ∙ append_assoc front (x ∷ xs) ((y ∷ ys) ++ begun (drop (at + n + m) cells))
    ∙ ap (λ l. front ++ l) (sym (append_assoc (x ∷ xs) (y ∷ ys) (begun (drop (at + n + m) cells))))
    ∙ ap (λ k. front ++ (((x ∷ xs) ++ y ∷ ys) ++ begun (drop k cells))) (sym size)

pub overwritten_more : (cells xs ys : List Cell) (at n : ℕ) → length xs ≡ n → at + n + length ys ≤ length cells → ArePaired false xs
    → overwritten (overwritten cells at xs) (at + n) ys ≡ overwritten cells at (xs ++ ys)
overwritten_more cells xs [] at n size le p = ap (overwritten cells at) (sym (append-nil xs))
overwritten_more cells [] (y ∷ ys) at n size le p = ap (λ k. overwritten cells k (y ∷ ys)) (ap (λ k. at + k) (sym size) ∙ omega arith)
overwritten_more cells (x ∷ xs) (y ∷ ys) at n size le p =
    ap (λ k. overwritten (overwritten cells at (x ∷ xs)) (at + k) (y ∷ ys)) (sym size)
    ∙ more_by cells xs ys x y at (omega (arith, le, size)) p

-- An overwriting keeps the number of cells.
pub overwritten_length : (cells others : List Cell) (at : ℕ) → at + length others ≤ length cells → length (overwritten cells at others) ≡ length cells
overwritten_length cells [] at le = refl
overwritten_length cells (x ∷ xs) at le =
    let front = ended (take at cells) in
    let back = begun (drop (at + length (x ∷ xs)) cells) in
    let long : length front ≡ at = ended_length (take at cells) ∙ length-take-le at cells (omega (arith, le)) in
    let short : length back ≡ length cells - (at + length (x ∷ xs)) = begun_length (drop (at + length (x ∷ xs)) cells) ∙ length-drop (at + length (x ∷ xs)) cells in
    omega (arith, le, length-append front ((x ∷ xs) ++ back), length-append (x ∷ xs) back, long, short)
