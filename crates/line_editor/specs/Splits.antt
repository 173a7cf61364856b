-- A line as two parts: what is before its cursor and what is from it on.
use Rattle.std.specs.Prelude.{ℕ, List, [], ◌∷◌, ◌++◌, length, reverse, encode_utf8_all, if◌then◌else◌}
use Rattle.unicode_segmentation.specs.Segments.{Rule, chars_before, chars_from}

-- A line, split at its cursor into the characters before it, nearest first, and those from it on.
pub record Split : Type 0 where
  pub before : List ℕ
  pub after : List ℕ

-- The text of a line: both parts in reading order.
abbrev pub line_text : Split → List ℕ
line_text d = reverse d.before ++ d.after

-- How many bytes of UTF-8 are before the cursor.
abbrev pub bytes_before : Split → ℕ
bytes_before d = length (encode_utf8_all (reverse d.before))

-- A text in UTF-8, split at a byte offset.
abbrev pub split_at : List ℕ → ℕ → Split
split_at text at = record { before = chars_before text at; after = chars_from text at }

-- The first place from this one on at which a rule holds, or the end of the line if there is none.
abbrev pub ahead : Rule → List ℕ → List ℕ → Split
ahead stops before [] = record { before = before; after = [] }
ahead stops before (c ∷ after) =
    if stops before (c ∷ after) then record { before = before; after = c ∷ after } else ahead stops (c ∷ before) after

-- The last place up to this one at which a rule holds, or the start of the line if there is none.
abbrev pub last_stop : Rule → List ℕ → List ℕ → Split
last_stop stops [] after = record { before = []; after = after }
last_stop stops (c ∷ before) after =
    if stops (c ∷ before) after then record { before = c ∷ before; after = after } else last_stop stops before (c ∷ after)
