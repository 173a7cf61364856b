-- Characters of ASCII.
use Rattle.std.specs.Prelude.{ℕ, ◌≤◌}

-- A character of ASCII that is no control character. In UTF-8 it is one byte.
abbrev pub IsPrintable : ℕ → Type 0
IsPrintable c = (32 ≤ c) × (c ≤ 126)
