-- Bytes as a device gave them.
use Rattle.std.specs.Prelude.{ℕ, Bool, false, not, List, [], ◌∷◌}
-- A byte, with `raw`, the mode reported with it, and `pause`: whether the device gave no byte behind it at once.
pub use Rattle.crossterm_parse.specs.declared.marked.Marked.{Marked}

-- The bytes without their marks.
abbrev pub bytes_of : List Marked → List ℕ
bytes_of [] = []
bytes_of (m ∷ ms) = m.byte ∷ bytes_of ms

-- A piece of bytes in one mode. Its last byte has a pause, unless more bytes follow at once.
abbrev pub marked : List ℕ → Bool → Bool → List Marked
marked [] more raw = []
marked (b ∷ []) more raw = record { byte = b; raw = raw; pause = not more } ∷ []
marked (b ∷ c ∷ bs) more raw = record { byte = b; raw = raw; pause = false } ∷ marked (c ∷ bs) more raw

-- The mode reported with the last byte; false if there are no bytes.
abbrev pub last_raw : List Marked → Bool
last_raw [] = false
last_raw (m ∷ []) = m.raw
last_raw (m ∷ n ∷ ms) = last_raw (n ∷ ms)
