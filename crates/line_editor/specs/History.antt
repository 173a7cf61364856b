-- A history as a text, and the history that a text holds.
use Rattle.std.specs.Prelude.{ℕ, Bool, false, true, nat_le, nat_lt, ◌&&◌, ◌==◌, List, [], ◌∷◌, ◌++◌, if◌then◌else◌, map, reverse, take}
use Rattle.std.specs.List.{filter, flat_map, slice_split}
use Rattle.line_editor.specs.declared.last.Last.TheVariants.{Other}
use Rattle.line_editor.specs.declared.limits.Limits.{Limits}
use Rattle.line_editor.specs.Bounds.{size}
use Rattle.line_editor.specs.Shown.{pasted_part}
use Rattle.line_editor.specs.Splits.{Split, line_text}
use Rattle.line_editor.specs.States.{EditorState, no_search}

-- A text with `\n` for each line feed and `\\` for each backslash, so that it has no line feed.
abbrev pub escaped : List ℕ → List ℕ
escaped [] = []
escaped (c ∷ text) = if c == 10 then 92 ∷ 110 ∷ escaped text else (if c == 92 then 92 ∷ 92 ∷ escaped text else c ∷ escaped text)

-- The text that was escaped, if a backslash is just before it or none is. Before any other character a backslash is
-- one.
abbrev pub unescaped : Bool → List ℕ → List ℕ
unescaped behind [] = if behind then 92 ∷ [] else []
unescaped behind (c ∷ text) =
    if behind then (if c == 110 then 10 ∷ unescaped false text else (if c == 92 then 92 ∷ unescaped false text else 92 ∷ c ∷ unescaped false text))
    else (if c == 92 then unescaped true text else c ∷ unescaped false text)

-- A line in the text of a history, which is escaped if lines may have several rows.
abbrev pub line_saved : Bool → List ℕ → List ℕ
line_saved multiline text = if multiline then escaped text else text

-- The text of a history: its lines, the oldest first, with a line feed behind each.
abbrev pub saved : Bool → List Split → List ℕ
saved multiline history = flat_map (λ d. line_saved multiline (line_text d) ++ 10 ∷ []) (reverse history)

-- The line that such a text was, as far as it comes into a line.
abbrev pub line_read : Bool → List ℕ → List ℕ
line_read multiline text = pasted_part multiline (if multiline then unescaped false text else text)

-- The lines of a text, which are what is between its line feeds.
abbrev pub lines_of : List ℕ → List (List ℕ)
lines_of text = slice_split (λ c. c == 10) text

-- Whether a line isn't empty, and has no more bytes than the limit says.
abbrev pub has_room : Limits → List ℕ → Bool
has_room limits text = nat_lt 0 (size text) && nat_le (size text) limits.bytes

-- A loaded line, with its cursor at its end.
abbrev pub loaded_line : List ℕ → Split
loaded_line text = record { before = reverse text; after = [] }

-- A history with a loaded line as its newest if the line has room. The oldest lines beyond the limit are left out.
abbrev pub with_line : Limits → List ℕ → List Split → List Split
with_line limits text history = if has_room limits text then take limits.lines (loaded_line text ∷ history) else history

-- The history of a text: its last lines, the newest first, of each what comes of it into a line. Lines without room are
-- left out.
abbrev pub history_of : Limits → List ℕ → List Split
history_of limits text = take limits.lines (reverse (map loaded_line (filter (has_room limits) (map (line_read limits.multiline) (lines_of text)))))

-- The editor with the history of a text in place of its own. Its line stays, as one that isn't in the history. Lines
-- that were left and a search go.
abbrev pub loaded : List ℕ → EditorState → EditorState
loaded text w = record w { history = history_of w.limits text; back = 0; left = []; search = no_search; last = Other }
