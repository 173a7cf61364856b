-- The comparisons of a type, and what they return.
use Rattle.std.specs.Prelude.{◌≡◌, Option}
use Rattle.std.specs.Cmp.{Agrees}
use Rattle.std.specs.declared.cmp.Ordering.{Ordering}

-- Both comparisons of a type go by this order.
abbrev pub ComparesBy : {T : Type 0} → (T → T → Ordering) → (T → T → Ordering) → (T → T → Option Ordering) → Type 0
ComparesBy {T} order cmp partial = ((a b : T) → cmp a b ≡ order a b) × Agrees partial order
