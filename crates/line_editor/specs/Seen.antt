-- Laws of the part of a line that is seen in a row.
use Rattle.std.specs.Prelude.{◌≡◌, ℕ, ◌+◌, ◌<◌, ◌≤◌, true, List, ◌++◌, length, reverse}
use Rattle.line_editor.specs.Splits.{Split, line_text}
use Rattle.line_editor.specs.Edits.{IsSettled}
use Rattle.line_editor.specs.Places.{is_between}
use Rattle.line_editor.specs.Views.{column, width_of, seen_text}

-- The part of a line that is seen fits into a row of `room` columns.
pub record IsSeen (room : ℕ) (d : Split) : Type 0 where
  -- The cursor is in the row.
  pub cursor : column room d < room
  -- The text that is seen fits into the row.
  pub text : width_of (seen_text room d) ≤ room
  -- The parts of the text before the cursor and behind it that are seen.
  pub left : List ℕ
  pub right : List ℕ
  pub whole : seen_text room d ≡ left ++ right
  -- The cursor is behind the left part.
  pub place : width_of left ≡ column room d
  -- The left part is the end of what is before the cursor.
  pub before : (hidden : List ℕ) × (reverse d.before ≡ hidden ++ left)
  -- The right part is the beginning of what is behind the cursor.
  pub after : (hidden : List ℕ) × (d.after ≡ right ++ hidden)
  -- No longer part on either side that begins or ends between clusters has room.
  pub most_before : (front part : List ℕ) → reverse d.before ≡ front ++ part → is_between (reverse front) (part ++ d.after) ≡ true
      → width_of part < room → length part ≤ length left
  pub most_after : (part back : List ℕ) → d.after ≡ part ++ back → is_between (reverse part ++ d.before) back ≡ true
      → column room d + width_of part ≤ room → length part ≤ length right

-- In a row of one column or more, what is seen of a line fits (`IsSeen`).
abbrev pub IsSeenIn : ℕ → Split → Type 0
IsSeenIn room d = 0 < room → IsSeen room d

-- The part that is seen is a piece of the line's text that begins and ends between clusters.
pub record IsInClusters (room : ℕ) (d : Split) : Type 0 where
  pub front : List ℕ
  pub back : List ℕ
  pub text : line_text d ≡ front ++ (seen_text room d ++ back)
  pub begins : is_between (reverse front) (seen_text room d ++ back) ≡ true
  pub ends : is_between (reverse (front ++ seen_text room d)) back ≡ true

-- If the cursor is between clusters, what is seen begins and ends between clusters.
abbrev pub KeepsClusters : ℕ → Split → Type 0
KeepsClusters room d = IsSettled d → IsInClusters room d
