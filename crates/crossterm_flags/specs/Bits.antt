-- Sets of bits as numbers, and how a table of named constants reads them.
use Rattle.std.specs.Prelude.{ℕ, ◌==◌, ◌&&◌, ◌++◌, not, Bool, List, [], ◌∷◌, map, if◌then◌else◌}
use Rattle.std.specs.List.{filter}
use Rattle.std.specs.Int.RustNames.{bit_and, bit_or}
use Rattle.bitflags.specs.Sets.{Row, without}

-- These bits and all bits of the constants of a table.
abbrev pub bits_with : ℕ → List Row → ℕ
bits_with bits [] = bits
bits_with bits (row ∷ rest) = bits_with (bit_or bits row.1) rest

-- All bits of the constants of a table.
abbrev pub bits_of : List Row → ℕ
bits_of table = bits_with 0 table

-- True if a constant isn't empty and the set contains it.
abbrev pub is_part : ℕ → ℕ → Bool
is_part bits flag = not (flag == 0) && (bit_and bits flag == flag)

-- The constants of a table that are parts of a set, in the table's order.
abbrev pub contained : List Row → ℕ → List ℕ
contained table bits = filter (is_part bits) (map (λ row. row.1) table)

-- A list of one set, or an empty list if the set is empty.
abbrev pub unless_empty : ℕ → List ℕ
unless_empty bits = if bits == 0 then [] else bits ∷ []

-- A set part by part: its constants in the table's order, and then the bits without a name as one part.
abbrev pub items : List Row → ℕ → List ℕ
items table bits = contained table bits ++ unless_empty (without 8 bits (bits_of table))
