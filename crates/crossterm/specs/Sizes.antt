-- Sizes as `tput` writes them.
use Rattle.std.specs.Prelude.{ℕ, ◌+◌, ◌*◌, ◌-◌, ◌==◌, ◌&&◌, ◌||◌, nat_le, nat_lt, min, Bool, List, Option, Some, None, filter, if◌then◌else◌}
use Rattle.std.specs.List.{fold}

-- True of an ASCII digit.
abbrev pub is_size_digit : ℕ → Bool
is_size_digit byte = nat_le 48 byte && nat_le byte 57

-- The decimal number of some digits.
abbrev pub decimal_of : List ℕ → ℕ
decimal_of digits = fold (λ number digit. number * 10 + (digit - 48)) 0 digits

-- The number with more digits behind it, of which only the digits count; 65536 if it is above 65535.
abbrev pub size_after : ℕ → List ℕ → ℕ
size_after number bytes = min (fold (λ n digit. n * 10 + (digit - 48)) number (filter is_size_digit bytes)) 65536

-- The number of the digits among some bytes; 65536 if it is above 65535.
abbrev pub number_in : List ℕ → ℕ
number_in bytes = size_after 0 bytes

-- A number of columns or lines: the digits among the bytes as one number, if it is 1 to 65535.
abbrev pub size_in : List ℕ → Option ℕ
size_in bytes =
    let number = decimal_of (filter is_size_digit bytes) in
    if number == 0 || nat_lt 65535 number then None else Some number

-- Both numbers if both are there, else nothing.
abbrev pub both : Option ℕ → Option ℕ → Option (ℕ × ℕ)
both (Some columns) (Some lines) = Some (columns, lines)
both (Some columns) None = None
both None lines = None
