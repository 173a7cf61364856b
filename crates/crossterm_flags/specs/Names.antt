-- The text that shows the modifiers of a key.
use Rattle.std.specs.Prelude.{ℕ, ◌==◌, List, [], ◌∷◌, map, codes}
use Rattle.std.specs.List.{filter, join_with_byte}
use Rattle.std.specs.Int.RustNames.{bit_and}
use Rattle.bitflags.specs.Sets.{Row}

-- The names that are shown, in their order, each with its bit.
abbrev pub shown_names : List Row
shown_names = (codes "Shift", 1) ∷ (codes "Control", 2) ∷ (codes "Alt", 4) ∷ (codes "Super", 8) ∷ (codes "Hyper", 16) ∷ (codes "Meta", 32) ∷ []

-- The names of a table whose bits are in a set.
abbrev pub names_in : List Row → ℕ → List (List ℕ)
names_in table bits = map (λ row. row.0) (filter (λ row. bit_and bits row.1 == row.1) table)

-- The names of the modifiers in a set, with `+` between each two: `Shift+Alt`.
abbrev pub modifiers_text : ℕ → List ℕ
modifiers_text bits = join_with_byte 43 (names_in shown_names bits)
