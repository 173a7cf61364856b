-- The part of a line that is seen in one row, and the cursor's column.
use Rattle.std.specs.Prelude.{ℕ, ◌+◌, ◌-◌, nat_le, false, List, [], ◌∷◌, if◌then◌else◌}
use Rattle.std.specs.Prelude.{Option, Some, None}
use Rattle.unicode_width.specs.Width.{char_width}
use Rattle.line_editor.specs.Splits.{Split, split_at}
use Rattle.line_editor.specs.Edits.{from_to}
use Rattle.line_editor.specs.Places.{is_between}

-- The columns of a width, or 0 if there is no width.
abbrev pub columns_of_width : Option ℕ → ℕ
columns_of_width None = 0
columns_of_width (Some width) = width

-- How many columns a character takes. One without a width takes none.
abbrev pub columns_of : ℕ → ℕ
columns_of c = columns_of_width (char_width false c)

-- How many columns the characters of a text take together.
abbrev pub width_of : List ℕ → ℕ
width_of [] = 0
width_of (c ∷ text) = columns_of c + width_of text

-- The place from which a line is seen, and the number of columns from there to the cursor.
pub record Start : Type 0 where
  pub place : Split
  pub column : ℕ

-- The start of a byte offset and a column, in a text in UTF-8.
abbrev pub start_at : List ℕ → ℕ × ℕ → Start
start_at text s = record { place = split_at text s.0; column = s.1 }

-- A start if it is between clusters, otherwise another one.
abbrev pub start_or : Start → Start → Start
start_or s best = if is_between s.place.before s.place.after then s else best

-- The furthest start back from a place that is between clusters and has no more than `room` columns to the cursor, or
-- `best`.
abbrev pub furthest : ℕ → ℕ → List ℕ → List ℕ → Start → Start
furthest room used [] after best = best
furthest room used (c ∷ before) after best =
    let s : Start = record { place = record { before = before; after = c ∷ after }; column = used + columns_of c } in
    if nat_le s.column room then furthest room s.column before (c ∷ after) (start_or s best) else best

-- A place if it is between clusters, otherwise another one.
abbrev pub place_or : Split → Split → Split
place_or d best = if is_between d.before d.after then d else best

-- The furthest place forward from a place that is between clusters and has no more than `room` columns before it, or
-- `best`.
abbrev pub last_seen : ℕ → ℕ → List ℕ → List ℕ → Split → Split
last_seen room used before [] best = best
last_seen room used before (c ∷ after) best =
    let d : Split = record { before = c ∷ before; after = after } in
    if nat_le (used + columns_of c) room then last_seen room (used + columns_of c) (c ∷ before) after (place_or d best) else best

-- The place from which a line is seen: as far back as leaves one column for the cursor.
abbrev pub start : ℕ → Split → Start
start room d = furthest (room - 1) 0 d.before d.after (record { place = d; column = 0 })

-- The place up to which a line is seen: as far forward as there are columns behind the cursor's.
abbrev pub end_seen : ℕ → ℕ → Split → Split
end_seen room column d = last_seen room column d.before d.after d

-- The text that is seen: the part from the start to the end.
abbrev pub seen_text : ℕ → Split → List ℕ
seen_text room d = from_to (start room d).place (end_seen room (start room d).column d)

-- The cursor's column: the number of columns from the start to the cursor.
abbrev pub column : ℕ → Split → ℕ
column room d = (start room d).column
