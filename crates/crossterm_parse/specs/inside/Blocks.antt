-- Bytes of one class.
use Rattle.std.specs.Prelude.{ℕ, ◌≤◌, ◌<◌, List, get_or}

-- The bytes at the indices from `from` up to `to` lie between `first` and `last`, these two among them.
abbrev pub LieBetween : ℕ → ℕ → List ℕ → ℕ → ℕ → Type 0
LieBetween first last bytes from to = (k : ℕ) → from ≤ k → k < to → (first ≤ get_or bytes k 0) × (get_or bytes k 0 ≤ last)
