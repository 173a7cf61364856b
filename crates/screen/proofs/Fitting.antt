-- Cells of characters that take one cell or two.
use Rattle.std.proofs.Common.{◌≡◌, ℕ, zero, suc, ◌<◌, ◌==◌, true, false, List, [], ◌∷◌, inl, inr, refl, sym, ap, ◌∙◌, subst, arith, length, replicate}
use Rattle.std.proofs.lemmas.Bool.Decides.{nat_tests}
use Rattle.std.proofs.lemmas.List.{get_or-replicate, length-replicate}
use Rattle.std.proofs.lemmas.List.Elements.{All-replicate}
use Rattle.unicode_width.proofs.Computing.{unicode_width}
use Rattle.unicode_width.specs.Width.{char_width}
use Rattle.screen.specs.Cells.{AreLaidOut, ArePaired, Cell, FitsCell, IsPrinted, IsPlaced, StayInRows, blank, is_wide, shown_text}
use Rattle.screen.specs.Grids.{takes_one}
use Rattle.screen.proofs.Squares.{space_is_narrow, zero_takes_no_two}

space_takes_one : takes_one 32 ≡ true
unfolding char_width
space_takes_one = refl

pub space_printed : IsPrinted 32
space_printed = (refl, refl, inl space_takes_one)

replacement_takes_one : takes_one 0xFFFD ≡ true
unfolding unicode_width
replacement_takes_one = refl

-- U+FFFD is a character that cells can hold.
pub replacement_printed : IsPrinted 0xFFFD
replacement_printed = (refl, refl, inl replacement_takes_one)

-- A character without marks.
pub held_alone : (c : ℕ) → IsPrinted c → FitsCell (c ∷ [])
held_alone c p = (p, tt)

zero_takes_none : takes_one 0 ≡ false
unfolding char_width
zero_takes_none = refl

zero_isnt_printed : IsPrinted 0 → ⊥
zero_isnt_printed (s, j, inl e) = let no : true ≡ false = sym e ∙ zero_takes_none in cc
zero_isnt_printed (s, j, inr e) = let no : true ≡ false = sym e ∙ zero_takes_no_two in cc

-- A character that is printed isn't that of a covered cell.
pub printed_there : (c : ℕ) → IsPrinted c → (c == 0) ≡ false
printed_there c p =
    elim (c == 0) as (λ b. (c == 0) ≡ b → (c == 0) ≡ false) [
      | true ↦ λ e. let z : c ≡ 0 = grind (arith, nat_tests) in absurd (zero_isnt_printed (subst IsPrinted z p))
      | false ↦ λ e. e
    ] refl

pub held_placed : (c : Cell) → FitsCell (shown_text c) → IsPlaced c
held_placed c p = inr (printed_there c.symbol p.0, p)

-- ---- cells that are all the same

same_paired : (n : ℕ) (c : Cell) → FitsCell (shown_text c) → is_wide c ≡ false → ArePaired false (replicate n c)
same_paired zero c p w = refl
same_paired (suc n) c p w = (printed_there c.symbol p.0, subst (λ b. ArePaired b (replicate n c)) (sym w) (same_paired n c p w))

same_stay : (n : ℕ) (c : Cell) → is_wide c ≡ false → (width : ℕ) → StayInRows width (replicate n c)
same_stay n c w width k d lt e =
    let same : is_wide c ≡ true = ap is_wide (sym (get_or-replicate n k c d (subst (λ m. k < m) (length-replicate n c) lt))) ∙ e in
    let no : false ≡ true = sym w ∙ same in cc

pub same_laid_out : (n : ℕ) (c : Cell) → FitsCell (shown_text c) → is_wide c ≡ false → (width : ℕ) → AreLaidOut width (replicate n c)
same_laid_out n c p w width = record { placed = All-replicate IsPlaced n c (held_placed c p); paired = same_paired n c p w; rows = same_stay n c w width }

pub blank_laid_out : (n : ℕ) (xs : List Cell) → xs ≡ replicate n blank → (width : ℕ) → AreLaidOut width xs
blank_laid_out n xs e width = subst (AreLaidOut width) (sym e) (same_laid_out n blank (held_alone 32 space_printed) space_is_narrow width)

pub count_blank : (n : ℕ) (xs : List Cell) → xs ≡ replicate n blank → length xs ≡ n
count_blank n xs e = ap length e ∙ length-replicate n blank
