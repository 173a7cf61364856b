-- The text of a paste, piece by piece.
use Rattle.std.specs.Prelude.{◌≡◌, ◌≤◌, ◌<◌, ◌+◌, ◌⊎◌, ℕ, List, ◌++◌, encode_utf8_all, length, take, drop}
use Rattle.std.specs.Char.{encode_utf8}
use Rattle.bstr.specs.Utf8.{decoded, lossy_chars, or_replacement}

-- The text of some bytes, with U+FFFD for each maximal part that isn't UTF-8.
abbrev pub lossy_text : List ℕ → List ℕ
lossy_text bytes = encode_utf8_all (lossy_chars bytes)

-- The text of the bytes is `front` and then the text of the bytes from `place` on.
abbrev pub TextBeginsWith : List ℕ → List ℕ → ℕ → Type 0
TextBeginsWith bytes front place = lossy_text bytes ≡ front ++ lossy_text (drop place bytes)

-- The first character of some bytes, in UTF-8. If they don't begin with one, it is U+FFFD; also if there are none.
abbrev pub next_text : List ℕ → List ℕ
next_text bytes = encode_utf8 (or_replacement (decoded bytes).char)

-- `read` bytes were read, and `count` bytes of their text were written into a slice.
pub record WritesLossy (bytes slice : List ℕ) (count read : ℕ) : Type 0 where
  pub within : read ≤ length bytes
  pub fits : count ≤ length slice
  pub text : TextBeginsWith bytes (take count slice) read
  -- All bytes were read, or the next character has no room.
  pub whole : (read ≡ length bytes) ⊎ (length slice < count + length (next_text (drop read bytes)))
