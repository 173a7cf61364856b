-- Values of environment variables.
use Rattle.std.specs.Prelude.{ℕ, ◌==◌, not, Bool, false, List, length, Option, Some, None}
use Rattle.std.specs.Borrow.{Bor}

-- True if a variable is set: it has a value, and not the empty one.
abbrev pub is_set : Option (Bor (List ℕ)) → Bool
is_set None = false
is_set (Some value) = not (length value.now == 0)
