-- The rows of a line, between which there are line feeds.
use Rattle.std.specs.Prelude.{ℕ, ◌+◌, ◌-◌, ◌==◌, ◌||◌, nat_lt, Bool, true, false, List, [], ◌∷◌, if◌then◌else◌, Option, Some, None}
use Rattle.std.specs.Option.{option_map}
use Rattle.unicode_segmentation.specs.Segments.{Rule}
use Rattle.line_editor.specs.Edits.{settled}
use Rattle.line_editor.specs.Shown.{begins_with_feed}
use Rattle.line_editor.specs.Splits.{Split, ahead, last_stop}
use Rattle.line_editor.specs.Views.{columns_of}

-- Whether a row begins at a place, which is just behind a line feed then.
abbrev pub begins_row : Rule
begins_row before after = begins_with_feed before

-- Whether a row ends at a place, which is just before a line feed then.
abbrev pub ends_row : Rule
ends_row before after = begins_with_feed after

-- How many columns of its row are before a place.
abbrev pub columns_back : List ℕ → ℕ
columns_back [] = 0
columns_back (c ∷ before) = if c == 10 then 0 else columns_of c + columns_back before

-- The place behind as many characters of a row as have room in so many columns.
abbrev pub place_along : ℕ → List ℕ → List ℕ → Split
place_along room before [] = record { before = before; after = [] }
place_along room before (c ∷ after) =
    if c == 10 || nat_lt room (columns_of c) then record { before = before; after = c ∷ after } else place_along (room - columns_of c) (c ∷ before) after

-- The start of the row above one that begins at a place. `None` if that is the first one.
abbrev pub start_above : List ℕ → List ℕ → Option Split
start_above [] after = None
start_above (c ∷ before) after = Some (last_stop begins_row before (c ∷ after))

-- The start of the row below one that ends at a place. `None` if that is the last one.
abbrev pub start_below : List ℕ → List ℕ → Option Split
start_below before [] = None
start_below before (c ∷ after) = Some (record { before = c ∷ before; after = after })

-- The start of the row above the cursor's, or of the one below it. `None` if there is none.
abbrev pub next_row : Bool → Split → Option Split
next_row true d = let start : Split = last_stop begins_row d.before d.after in start_above start.before start.after
next_row false d = let end : Split = ahead ends_row d.before d.after in start_below end.before end.after

-- The place in a row, given by its start, that is in the cursor's column, or at the row's end if that has fewer columns. A
-- place within a cluster is settled at its end.
abbrev pub place_in_row : Split → Split → Split
place_in_row d start = settled (place_along (columns_back d.before) start.before start.after)

-- The place in the row above or below to which Up and Down bring the cursor. `None` if there is no such row.
abbrev pub row_place : Bool → Split → Option Split
row_place up d = option_map (place_in_row d) (next_row up d)
