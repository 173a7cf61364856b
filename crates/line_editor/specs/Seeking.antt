-- Incremental searches: what is typed is looked for in the accepted lines.
use Rattle.std.specs.Prelude.{ℕ, ◌+◌, ◌-◌, ◌==◌, ◌&&◌, ◌||◌, not, nat_le, Bool, true, false, List, [], ◌∷◌, Option, Some, None, is_some, if◌then◌else◌, drop, slice_get, zero, suc}
use Rattle.std.specs.Str.{bytes_eq}
use Rattle.line_editor.specs.declared.last.Last.{Last}
use Rattle.line_editor.specs.declared.last.Last.TheVariants.{Seeking}
use Rattle.line_editor.specs.declared.places.Stop.TheVariants.{Cluster}
use Rattle.line_editor.specs.declared.places.Target.TheVariants.{Back}
use Rattle.line_editor.specs.Bounds.{size}
use Rattle.line_editor.specs.Edits.{empty_line, erased, inserted}
use Rattle.line_editor.specs.Shown.{comes_in}
use Rattle.line_editor.specs.Splits.{Split, line_text}
use Rattle.line_editor.specs.States.{EditorState, behind_front, brought_to, gone_to, is_empty, rung}

-- ---- how far a search is

-- Whether an incremental search goes on.
abbrev pub is_seeking : Last → Bool
is_seeking (Seeking s) = true
is_seeking last = false

-- Whether it goes to newer lines.
abbrev pub is_ahead : Last → Bool
is_ahead (Seeking s) = s.ahead
is_ahead last = false

-- Whether it has found a line.
abbrev pub has_found : Last → Bool
has_found (Seeking s) = s.found
has_found last = false

-- The text that a search looks for, if one goes on.
abbrev pub pattern_of : EditorState → Option (List ℕ)
pattern_of w = if is_seeking w.last then Some (line_text w.search.pattern) else None

-- ---- what is found

-- Whether a text contains another one.
abbrev pub contains : List ℕ → List ℕ → Bool
contains pattern [] = is_some (behind_front pattern [])
contains pattern (c ∷ text) = is_some (behind_front pattern (c ∷ text)) || contains pattern text

-- Whether a text contains a pattern that isn't empty.
abbrev pub has_pattern : List ℕ → List ℕ → Bool
has_pattern pattern text = not (is_empty pattern) && contains pattern text

-- The same of a text that isn't the one that is shown.
abbrev pub has_other : List ℕ → List ℕ → List ℕ → Bool
has_other pattern shown text = not (bytes_eq text shown) && has_pattern pattern text

-- Which texts are looked for: those with the pattern, and if a text is shown none that equals it.
abbrev pub wanted : List ℕ → Option (List ℕ) → List ℕ → Bool
wanted pattern None text = has_pattern pattern text
wanted pattern (Some shown) text = has_other pattern shown text

-- The number, from 1, of the first line whose text is looked for, if so many lines are before these. `None` if there is
-- none.
abbrev pub first_number : (List ℕ → Bool) → ℕ → List Split → Option ℕ
first_number is passed [] = None
first_number is passed (d ∷ lines) = if is (line_text d) then Some (passed + 1) else first_number is (passed + 1) lines

-- Whether there is a line, and its text is looked for.
abbrev pub is_wanted : (List ℕ → Bool) → Option Split → Bool
is_wanted is None = false
is_wanted is (Some d) = is (line_text d)

-- The number of the last of the first `n` lines whose text is looked for. `None` if there is none.
abbrev pub last_number : (List ℕ → Bool) → ℕ → List Split → Option ℕ
last_number is zero lines = None
last_number is (suc n) lines = if is_wanted is (slice_get lines n) then Some (n + 1) else last_number is n lines

-- The next older line with the pattern, or the next newer one, and another text.
abbrev pub found_next : Bool → EditorState → Option ℕ
found_next ahead w =
    let is : List ℕ → Bool = wanted (line_text w.search.pattern) (Some (line_text w.line)) in
    if ahead then last_number is (w.back - 1) w.history else first_number is w.back (drop w.back w.history)

-- The same from the line on with a new pattern, whatever text it has.
abbrev pub found_here : List ℕ → Bool → EditorState → Option ℕ
found_here pattern ahead w =
    if ahead then last_number (wanted pattern None) w.back w.history else first_number (wanted pattern None) (w.back - 1) (drop (w.back - 1) w.history)

-- ---- what comes of it

-- The editor with the line of this number, which stays if the search has found it already.
abbrev pub brought : ℕ → EditorState → EditorState
brought number w = if has_found w.last && w.back == number then w else gone_to number (slice_get w.history (number - 1)) w

-- The editor after a search went on in a direction. If nothing was found the line stays.
abbrev pub sought_on : Bool → Option ℕ → EditorState → EditorState
sought_on ahead None w = record w { last = Seeking (record { ahead = ahead; found = has_found w.last }) }
sought_on ahead (Some number) w = record (brought number w) { last = Seeking (record { ahead = ahead; found = true }) }

-- The editor after a search begins: it looks for nothing yet.
abbrev pub begun : Bool → EditorState → EditorState
begun ahead w = record w { search = record { pattern = empty_line; line = w.line; back = w.back }; last = Seeking (record { ahead = ahead; found = false }) }

-- The editor after a search begins or goes on to the next line.
abbrev pub sought_next : Bool → EditorState → EditorState
sought_next ahead w = if is_seeking w.last then sought_on ahead (found_next ahead w) w else begun ahead w

-- The editor after a search went on with another pattern, in its direction.
abbrev pub sought_with : Split → EditorState → EditorState
sought_with pattern w =
    record (sought_on (is_ahead w.last) (found_here (line_text pattern) (is_ahead w.last) w) w) { search = record w.search { pattern = pattern } }

-- Whether a character comes into a pattern: it comes into a line, and a line could have so many bytes.
abbrev pub is_more : ℕ → EditorState → Bool
is_more c w = comes_in w.limits.multiline c && nat_le (size (line_text w.search.pattern) + size (c ∷ [])) w.limits.bytes

-- The editor after a character is typed into the pattern. One that doesn't come in changes nothing.
abbrev pub sought_more : ℕ → EditorState → EditorState
sought_more c w = if is_more c w then sought_with (inserted (c ∷ []) w.search.pattern) w else w

-- The editor after the pattern's last cluster is taken back.
abbrev pub sought_less : EditorState → EditorState
sought_less w = sought_with (erased (Back Cluster) w.search.pattern) w

-- The editor with the line from which the search began.
abbrev pub put_back : EditorState → EditorState
put_back w = if has_found w.last then brought_to w.search.back w.search.line w else w

-- The editor after a search is given up, or after nothing if there is none.
abbrev pub given_up : EditorState → EditorState
given_up w = record (put_back w) { last = rung w.last }

-- Whether a search that goes on finds no next line.
abbrev pub rings_next : Bool → EditorState → Bool
rings_next ahead w = is_seeking w.last && not (is_some (found_next ahead w))

-- Whether no line has another pattern.
abbrev pub rings_with : List ℕ → EditorState → Bool
rings_with pattern w = not (is_some (found_here pattern (is_ahead w.last) w))

-- Whether no line has the pattern with a character more, or the character doesn't come in.
abbrev pub rings_more : ℕ → EditorState → Bool
rings_more c w = if is_more c w then rings_with (line_text (inserted (c ∷ []) w.search.pattern)) w else true

-- Whether no line has the pattern without its last cluster.
abbrev pub rings_less : EditorState → Bool
rings_less w = rings_with (line_text (erased (Back Cluster) w.search.pattern)) w
