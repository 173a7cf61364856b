-- Characters that are set one after another.
use Rattle.std.proofs.Common.{◌≡◌, ℕ, zero, suc, ◌+◌, List, [], ◌∷◌, ◌++◌, refl, sym, ap, ◌∙◌, flat_map, map, arith}
use Rattle.std.specs.List.{range_with_len}
use Rattle.std.proofs.lemmas.List.{flat_map_more}
use Rattle.std.proofs.lemmas.List.FromFn.{map-range_with_len_more}
use Rattle.crossterm_style.specs.declared.content_style.ContentStyle.{ContentStyle}
use Rattle.screen.specs.declared.rects.Rect.{Rect}
use Rattle.screen.specs.Areas.{covering}
use Rattle.screen.specs.Borders.{Stamp, across, with_stamps}
use Rattle.screen.specs.Buffers.{Picture, with_symbol}

stamps_joined : (p : Picture) (s : ContentStyle) (xs ys : List Stamp) → with_stamps p s (xs ++ ys) ≡ with_stamps (with_stamps p s xs) s ys
stamps_joined p s [] ys = refl
stamps_joined p s (x ∷ xs) ys = stamps_joined (with_symbol p x.column x.row x.symbol s) s xs ys

-- Some, and then others.
pub stamped_both : (p q r : Picture) (s : ContentStyle) (xs ys : List Stamp) → q ≡ with_stamps p s xs → r ≡ with_stamps q s ys → r ≡ with_stamps p s (xs ++ ys)
stamped_both p q r s xs ys first second = second ∙ ap (λ t. with_stamps t s ys) first ∙ sym (stamps_joined p s xs ys)

-- One more.
pub stamped_more : (p q r : Picture) (s : ContentStyle) (f : ℕ → Stamp) (n : ℕ) → q ≡ with_stamps p s (map f (range_with_len 0 n))
    → r ≡ with_symbol q (f n).column (f n).row (f n).symbol s → r ≡ with_stamps p s (map f (range_with_len 0 (n + 1)))
stamped_more p q r s f n before now =
    stamped_both p q r s (map f (range_with_len 0 n)) (f n ∷ []) before now ∙ ap (with_stamps p s) (sym (map-range_with_len_more f 0 n n (omega arith)))

stamps_size : (p : Picture) (s : ContentStyle) (xs : List Stamp) → ((with_stamps p s xs).width ≡ p.width) × ((with_stamps p s xs).height ≡ p.height)
stamps_size p s [] = (refl, refl)
stamps_size p s (x ∷ xs) = stamps_size (with_symbol p x.column x.row x.symbol s) s xs

-- The picture keeps its size.
pub stamped_size : (p q : Picture) (s : ContentStyle) (xs : List Stamp) → q ≡ with_stamps p s xs → (q.width ≡ p.width) × (q.height ≡ p.height)
stamped_size p q s xs e = (ap (λ t. t.width) e ∙ (stamps_size p s xs).0, ap (λ t. t.height) e ∙ (stamps_size p s xs).1)

-- ---- rectangles

range_more : (a n j : ℕ) → a + n ≡ j → range_with_len a (suc n) ≡ range_with_len a n ++ j ∷ []
range_more a zero j e = ap (λ k. k ∷ []) (omega (arith, e))
range_more a (suc n) j e = ap (λ l. a ∷ l) (range_more (a + 1) n j (omega (arith, e)))

rows_more : (f : ℕ → List Stamp) (n : ℕ) → flat_map f (range_with_len 0 n) ++ f n ≡ flat_map f (range_with_len 0 (n + 1))
rows_more f n =
    let next : n + 1 ≡ suc n = omega arith in
    flat_map_more f [] (range_with_len 0 n) n ∙ ap (flat_map f) (sym (ap (range_with_len 0) next ∙ range_more 0 n n (omega arith)))

-- One more row.
pub covered_more : (p q t : Picture) (s : ContentStyle) (r : Rect) (symbol n : ℕ) → q ≡ with_stamps p s (covering r symbol n)
    → t ≡ with_stamps q s (across r.x (r.y + n) r.width symbol) → t ≡ with_stamps p s (covering r symbol (n + 1))
covered_more p q t s r symbol n before now =
    stamped_both p q t s (covering r symbol n) (across r.x (r.y + n) r.width symbol) before now
    ∙ ap (with_stamps p s) (rows_more (λ k. across r.x (r.y + k) r.width symbol) n)

nothing : (f : ℕ → List Stamp) (xs : List ℕ) → ((k : ℕ) → f k ≡ []) → flat_map f xs ≡ []
nothing f [] none = refl
nothing f (x ∷ xs) none = ap (λ l. l ++ flat_map f xs) (none x) ∙ nothing f xs none

-- Without a column nothing is set.
pub covered_none : (p : Picture) (s : ContentStyle) (r : Rect) (symbol n : ℕ) → r.width ≡ 0 → p ≡ with_stamps p s (covering r symbol n)
covered_none p s r symbol n none =
    ap (with_stamps p s) (sym (nothing (λ k. across r.x (r.y + k) r.width symbol) (range_with_len 0 n) (λ k. ap (λ w. across r.x (r.y + k) w symbol) none)))
