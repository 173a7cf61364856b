-- The variants of an enum by name, in declared order. One table gives a value's name, its rank and the order of values.
use Rattle.std.specs.Prelude.{ℕ, suc, Bool, List, [], ◌∷◌, map, Option, Some, None, if◌then◌else◌}
use Rattle.std.specs.Borrow.{Bor}
use Rattle.std.specs.Option.{option_and_then}
use Rattle.std.specs.Ordering.{nat_cmp, on}
use Rattle.std.specs.declared.cmp.Ordering.{Ordering}
use Rattle.serde_json.specs.Data.{Data}
use Rattle.serde_json.specs.Find.{as_str}
use Rattle.crossterm_flags.specs.Values.{same}

-- Values with their names, in declared order, and a test of whether two values are equal.
pub record Variants (X : Type 0) : Type 0 where
  pub eq : X → X → Bool
  pub rows : List (List ℕ × X)

-- The rows of a program's table of names.
abbrev pub rows_of : {X : Type 0} → List (Bor (List ℕ) × X) → List (List ℕ × X)
rows_of table = map (λ row. (row.0.now, row.1)) table

-- ---- names

-- The name of a value in some rows; empty if it has none.
abbrev pub name_in : {X : Type 0} → (X → X → Bool) → List (List ℕ × X) → X → List ℕ
name_in eq [] x = []
name_in eq (row ∷ rows) x = if eq row.1 x then row.0 else name_in eq rows x

-- The name of a value.
abbrev pub variant : {X : Type 0} → Variants X → X → List ℕ
variant table = name_in table.eq table.rows

-- The first value with this name in some rows, or nothing.
abbrev pub value_in : {X : Type 0} → List (List ℕ × X) → List ℕ → Option X
value_in [] text = None
value_in (row ∷ rows) text = if same row.0 text then Some row.1 else value_in rows text

-- The value whose name a JSON text is, or nothing.
abbrev pub reads_named : {X : Type 0} → List (List ℕ × X) → Data → Option X
reads_named rows d = option_and_then (value_in rows) (as_str d)

-- The variant whose name a JSON text is, or nothing.
abbrev pub reads_variant : {X : Type 0} → Variants X → Data → Option X
reads_variant table = reads_named table.rows

-- ---- ranks

-- The index of a value among some, from 0; past the last if it isn't there.
abbrev pub place_in : {X : Type 0} → (X → X → Bool) → List X → X → ℕ
place_in eq [] x = 0
place_in eq (y ∷ ys) x = if eq y x then 0 else suc (place_in eq ys x)

-- All values of a table, in order.
abbrev pub all : {X : Type 0} → Variants X → List X
all table = map (λ row. row.1) table.rows

-- The rank of a value: its index in the table.
abbrev pub rank : {X : Type 0} → Variants X → X → ℕ
rank table = place_in table.eq (all table)

-- The order of two values by their ranks.
abbrev pub rank_order : {X : Type 0} → Variants X → X → X → Ordering
rank_order table = on (rank table) nat_cmp
