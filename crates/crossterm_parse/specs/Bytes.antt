-- Bytes by their names.
use Rattle.std.specs.Prelude.{ℕ, Bool, nat_le, ◌&&◌, ◌≤◌, ◌<◌}
use Rattle.std.specs.Str.{byte}

-- The escape character (ECMA-48, 8.3.48).
abbrev pub ESC : ℕ
ESC = 0x1B

-- The byte that a keyboard's Backspace sends.
abbrev pub DEL : ℕ
DEL = 0x7F

-- True of a digit, `0` to `9`.
abbrev pub is_digit : ℕ → Bool
is_digit b = nat_le (byte "0") b && nat_le b (byte "9")

-- A printable character of ASCII: 20 to 7E.
abbrev pub IsLetter : ℕ → Type 0
IsLetter b = (byte " " ≤ b) × (b < DEL)
