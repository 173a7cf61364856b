-- The bits of a table, and the parts of a set one row further.
use Rattle.std.proofs.Common.{◌≡◌, ◌<◌, ◌+◌, ◌++◌, ◌∙◌, ℕ, List, [], ◌∷◌, length, map, drop, true, false, refl, ap, sym}
use Rattle.std.proofs.lemmas.List.{drop_more}
use Rattle.std.specs.Prelude.{get_or}
use Rattle.std.specs.Int.RustNames.{bit_or}
use Rattle.bitflags.specs.Sets.{Row, known_from}
use Rattle.bitflags.proofs.Tables.{row-at}
use Rattle.crossterm_flags.specs.Bits.{bits_with, contained, is_part}

-- the library's word for the bits of a table
pub known_from-is : (bits : ℕ) (table : List Row) → known_from bits table ≡ bits_with bits table
unfolding known_from
known_from-is bits [] = refl
known_from-is bits (row ∷ rest) = known_from-is (bit_or bits row.1) rest

module _ {X : Type 0} (view : X → Row) (flags : List X) (table : List Row) (set place : ℕ) (flag : X) (bits : ℕ) (more parts : List ℕ)
    (rows : map view flags ≡ table) (lt : place < length flags) (at : flag ≡ get_or flags place flag) (is_bits : bits ≡ (view flag).1)
    (whole : contained (drop place table) set ++ more ≡ parts) where
  -- the constant at a place is a part of the set, and so it comes first
  pub part-here : is_part set bits ≡ true → parts ≡ bits ∷ (contained (drop (place + 1) table) set ++ more)
  part-here is =
      let row = row-at view flags table place flag rows lt at in
      let test : is_part set (view flag).1 ≡ true = ap (is_part set) (sym is_bits) ∙ is in
      sym whole ∙ rw (drop_more table place (view flag) row.0, row.1, test, is_bits) refl

  -- the constant at a place is no part of the set
  pub part-later : is_part set bits ≡ false → contained (drop (place + 1) table) set ++ more ≡ parts
  part-later is =
      let row = row-at view flags table place flag rows lt at in
      let test : is_part set (view flag).1 ≡ false = ap (is_part set) (sym is_bits) ∙ is in
      sym (rw (drop_more table place (view flag) row.0, row.1, test) refl) ∙ whole
