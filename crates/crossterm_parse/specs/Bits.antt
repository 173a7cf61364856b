-- Bits of a number.
use Rattle.std.specs.Prelude.{ℕ, ◌==◌, if◌then◌else◌}
use Rattle.std.specs.Int.RustNames.{bit_and}

-- The value if the number has all bits of `bit`, else 0.
abbrev pub where_bit : ℕ → ℕ → ℕ → ℕ
where_bit n bit value = if bit_and n bit == bit then value else 0
