-- The characters that a line can have.
use Rattle.std.specs.Prelude.{◌≡◌, ◌==◌, ◌&&◌, ◌||◌, ℕ, nat_le, not, Bool, true, false, List, [], ◌∷◌, Option, Some, None, if◌then◌else◌}
use Rattle.std.specs.List.{filter, list_all}
use Rattle.unicode_width.specs.Width.{char_width}

-- Whether there is a width, and it is two columns at most.
abbrev pub is_width_shown : Option ℕ → Bool
is_width_shown None = false
is_width_shown (Some width) = nat_le width 2

-- Whether a character is shown: it isn't a control character, and takes two columns at most.
abbrev pub is_shown : ℕ → Bool
is_shown c = is_width_shown (char_width false c)

-- Whether a character comes into a line: it is shown, or it is a line feed and lines may have several rows.
abbrev pub comes_in : Bool → ℕ → Bool
comes_in multiline c = (multiline && c == 10) || is_shown c

-- The characters of a text that come into a line.
abbrev pub part_in : Bool → List ℕ → List ℕ
part_in multiline text = filter (comes_in multiline) text

-- Whether a character is a gap: a tab or a part of a line's end.
abbrev pub is_gap : ℕ → Bool
is_gap c = c == 9 || (c == 10 || c == 13)

-- Whether a text begins with a character that is no gap.
abbrev pub begins_behind_gap : List ℕ → Bool
begins_behind_gap [] = false
begins_behind_gap (c ∷ text) = not (is_gap c)

-- A text with one blank in the place of each run of gaps, but for a run at its end, which is left out. The last gap of
-- a run becomes the blank.
abbrev pub blanked : List ℕ → List ℕ
blanked [] = []
blanked (c ∷ text) = if is_gap c then (if begins_behind_gap text then 32 ∷ blanked text else blanked text) else c ∷ blanked text

-- Whether a text begins with a line feed.
abbrev pub begins_with_feed : List ℕ → Bool
begins_with_feed [] = false
begins_with_feed (c ∷ text) = c == 10

-- A text with a line feed for each line end, which is CR LF, CR or LF, and with a blank for each tab.
abbrev pub with_feeds : List ℕ → List ℕ
with_feeds [] = []
with_feeds (c ∷ text) =
    if c == 13 then (if begins_with_feed text then with_feeds text else 10 ∷ with_feeds text)
    else (if c == 9 then 32 ∷ with_feeds text else c ∷ with_feeds text)

-- The characters of a pasted text that come into a line. In a line of one row each run of gaps is a blank. In one of
-- several rows each line end is a line feed, and each tab a blank.
abbrev pub pasted_part : Bool → List ℕ → List ℕ
pasted_part multiline text = part_in multiline (if multiline then with_feeds text else blanked text)

-- Each character of a text comes into a line.
abbrev pub AreIn : Bool → List ℕ → Type 0
AreIn multiline text = list_all (comes_in multiline) text ≡ true

-- Each character of a text is shown, or is a line feed, which ends a row.
abbrev pub AreRows : List ℕ → Type 0
AreRows text = AreIn true text
