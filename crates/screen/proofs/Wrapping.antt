-- Texts that are wrapped into rows.
use Rattle.std.proofs.Common.{◌≡◌, ℕ, ◌+◌, ◌==◌, nat_le, Bool, true, false, cond, List, [], ◌∷◌, ◌++◌, refl, sym, ap, ◌∙◌, append_assoc, arith, length, length-append, replicate}
use Rattle.std.proofs.lemmas.Bool.Decides.{nat_tests}
use Rattle.crossterm_style.specs.declared.content_style.ContentStyle.{ContentStyle}
use Rattle.screen.specs.declared.parts.Part.{Part}
use Rattle.screen.specs.Cells.{Cell, blank}
use Rattle.screen.specs.Grids.{takes_two}
use Rattle.screen.specs.Overwriting.{cells_with}
use Rattle.screen.specs.Paragraphs.{blanks_before, columns_left, is_feed, part_cells, placed_part, wrapped}
use Rattle.screen.specs.Texts.{columns, fitting}
use Rattle.screen.specs.inside.FirstParts.{IsPart}

-- The cells of a part that is no line feed.
pub cells_of_part : (s : ContentStyle) (width n : ℕ) (part : Part) (p : List ℕ) → IsPart part p → (part.symbol ≡ 10 → ⊥) → part_cells s width n p ≡ placed_part s width n (fitting 0xFFFD p)
cells_of_part s width n part [] held other = absurd held
cells_of_part s width n part (c ∷ marks) held other =
    let no : (c == 10) ≡ false = grind (arith, nat_tests, held.0) in
    ap (λ b. cond b (replicate (columns_left width n) blank) (placed_part s width n (fitting 0xFFFD (c ∷ marks)))) no

-- The cells of a text: those of its first part, and those of the parts behind it.
pub wrapped_behind : (s : ContentStyle) (width : ℕ) (cells : List Cell) (p : List ℕ) (text back : List (List ℕ)) → text ≡ p ∷ back
    → cells ++ wrapped s width (length cells) text
    ≡ (cells ++ part_cells s width (length cells) p) ++ wrapped s width (length (cells ++ part_cells s width (length cells) p)) back
wrapped_behind s width cells p text back first =
    let part = part_cells s width (length cells) p in
    ap (λ t. cells ++ wrapped s width (length cells) t) first ∙ sym (append_assoc cells part (wrapped s width (length cells + length part) back))
    ∙ ap (λ n. (cells ++ part) ++ wrapped s width n back) (sym (length-append cells part))

-- ---- rows without columns

no_room : (two : Bool) (cells : List Cell) → cond (nat_le (cond {A = ℕ} two 2 1) 0) cells [] ≡ []
no_room true cells = refl
no_room false cells = refl

nothing_placed : (s : ContentStyle) (n : ℕ) (p : List ℕ) → placed_part s 0 n p ≡ []
nothing_placed s n [] = let none : columns_left 0 n ≡ 0 = omega arith in ap (λ k. cond (nat_le 0 k) [] (replicate k blank) ++ []) none
nothing_placed s n (c ∷ marks) = no_room (takes_two c) (blanks_before 0 n (columns c) ++ cells_with s (c ∷ marks))

nothing_added : (feed : Bool) (s : ContentStyle) (n : ℕ) (p : List ℕ) → cond feed (replicate (columns_left 0 n) blank) (placed_part s 0 n p) ≡ []
nothing_added true s n p = let none : columns_left 0 n ≡ 0 = omega arith in ap (λ k. replicate k blank) none
nothing_added false s n p = nothing_placed s n p

nothing_of : (s : ContentStyle) (n : ℕ) (text : List (List ℕ)) → wrapped s 0 n text ≡ []
nothing_of s n [] = refl
nothing_of s n (p ∷ text) =
    let part = part_cells s 0 n p in
    let none : part ≡ [] = nothing_added (is_feed p) s n (fitting 0xFFFD p) in
    ap (λ l. l ++ wrapped s 0 (n + length part) text) none ∙ nothing_of s (n + length part) text

-- They have nothing of a text.
pub nothing_wrapped : (s : ContentStyle) (width n : ℕ) (text : List (List ℕ)) → width ≡ 0 → wrapped s width n text ≡ []
nothing_wrapped s width n text none = ap (λ w. wrapped s w n text) none ∙ nothing_of s n text
