-- Numbers in a sequence.
use Rattle.std.specs.Prelude.{ℕ, zero, suc, ◌+◌, ◌-◌, ◌*◌, ◌==◌, nat_le, if◌then◌else◌, List, [], ◌∷◌, Option, Some, None, option_and_then}
use Rattle.std.specs.Str.{byte}
use Rattle.crossterm_parse.specs.Bytes.{is_digit}

-- The value of more digits behind the number `n`; nothing if one of them isn't a digit.
abbrev pub read_digits : ℕ → List ℕ → Option ℕ
read_digits n [] = Some n
read_digits n (b ∷ bs) = if is_digit b then read_digits (n * 10 + (b - byte "0")) bs else None

-- The value of one digit or more; nothing for any other text.
abbrev pub some_digits : List ℕ → Option ℕ
some_digits [] = None
some_digits (b ∷ bs) = read_digits 0 (b ∷ bs)

-- The value of a number: one digit or more, with or without a `+` before them. It has no upper limit.
abbrev pub value_of : List ℕ → Option ℕ
value_of [] = None
value_of (b ∷ bs) = if b == byte "+" then some_digits bs else some_digits (b ∷ bs)

-- The number if it is at most the limit, else nothing.
abbrev pub at_most : ℕ → Option ℕ → Option ℕ
at_most limit n = option_and_then (λ n. if nat_le n limit then Some n else None) n

-- The number that a text spells if it has at most 32 bits, else nothing.
abbrev pub number : List ℕ → Option ℕ
number text = at_most 4294967295 (value_of text)

-- A number less 1; nothing for 0.
abbrev pub less_one : ℕ → Option ℕ
less_one zero = None
less_one (suc n) = Some n

-- A coordinate, counted from 0: a number of 1 to 65535, less 1. Nothing for any other number.
abbrev pub coordinate : Option ℕ → Option ℕ
coordinate n = option_and_then less_one (at_most 65535 n)
