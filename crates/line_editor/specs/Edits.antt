-- How edits change a line.
use Rattle.std.specs.Prelude.{◌≡◌, true, ℕ, ◌-◌, nat_le, nat_lt, Bool, ◌&&◌, ◌||◌, List, [], ◌∷◌, ◌++◌, length, reverse, take}
use Rattle.line_editor.specs.declared.places.Target.{Target}
use Rattle.line_editor.specs.declared.places.Stop.TheVariants.{Blank, Cluster, WordEnd, WordStart}
use Rattle.line_editor.specs.declared.places.Target.TheVariants.{Back, Forward}
use Rattle.line_editor.specs.Splits.{Split, ahead, bytes_before}
use Rattle.line_editor.specs.Places.{back_from, is_between, target_place}
use Rattle.line_editor.specs.Words.{begins_blank, unblanked}

-- The line without characters.
abbrev pub empty_line : Split
empty_line = record { before = []; after = [] }

-- The cursor is between clusters, or at an end of the line.
abbrev pub IsSettled : Split → Type 0
IsSettled d = is_between d.before d.after ≡ true

-- The line with its cursor moved to the end of the cluster that it is within, if it is within one.
abbrev pub settled : Split → Split
settled d = ahead is_between d.before d.after

-- The line of what is before the place `p`, a text, and what is behind the place `q`. Its cursor is behind the text,
-- settled.
abbrev pub line_with : Split → List ℕ → Split → Split
line_with p text q = settled (record { before = reverse text ++ p.before; after = q.after })

-- The line with a text inserted at the cursor.
abbrev pub inserted : List ℕ → Split → Split
inserted text d = line_with d text d

-- The start of what a target reaches: the target or the cursor, whichever is first.
abbrev pub start_of : Target → Split → Split
start_of (Back stop) d = target_place (Back stop) d
start_of (Forward stop) d = d

-- The end of what a target reaches: the target or the cursor, whichever is last.
abbrev pub reach_end : Target → Split → Split
reach_end (Back stop) d = d
reach_end (Forward stop) d = target_place (Forward stop) d

-- The line without the part that a target reaches.
abbrev pub erased : Target → Split → Split
erased target d = line_with (start_of target d) [] (reach_end target d)

-- The text between a place of a line and a later one.
abbrev pub from_to : Split → Split → List ℕ
from_to p q = take (length q.before - length p.before) p.after

-- The text that a target reaches, which an erasure cuts out.
abbrev pub cut_text : Target → Split → List ℕ
cut_text target d = from_to (start_of target d) (reach_end target d)

-- The place between the clusters that are transposed: the cursor, or at the line's end the start of its last cluster.
abbrev pub meeting : List ℕ → List ℕ → Split
meeting before [] = back_from is_between before []
meeting before (c ∷ after) = record { before = before; after = c ∷ after }

-- The line with the part from `p` to `m` and the part from `m` to `q` exchanged.
abbrev pub exchanged : Split → Split → Split → Split
exchanged p m q = line_with p (from_to m q ++ from_to p m) q

-- The line with the clusters before and behind their meeting place exchanged.
abbrev pub transposed : Split → Split
transposed d =
    let m = meeting d.before d.after in
    exchanged (target_place (Back Cluster) m) m (target_place (Forward Cluster) m)

-- ---- words

-- The end of the second of two words that are exchanged: the next end of a word behind the cursor.
abbrev pub second_end : Split → Split
second_end d = target_place (Forward WordEnd) d

-- The start of that word.
abbrev pub second_start : Split → Split
second_start d = target_place (Back WordStart) (second_end d)

-- The start of the word before it, which is the first one.
abbrev pub first_start : Split → Split
first_start d = target_place (Back WordStart) (second_start d)

-- The end of the first word.
abbrev pub first_end : Split → Split
first_end d = target_place (Forward WordEnd) (first_start d)

-- Whether there are two words: the first one begins before the second one, and ends no later than that begins.
abbrev pub has_two_words : Split → Bool
has_two_words d =
    nat_lt (bytes_before (first_start d)) (bytes_before (second_start d)) && nat_le (bytes_before (first_end d)) (bytes_before (second_start d))

-- The second word, what is between the words, and the first word.
abbrev pub words_swapped : Split → List ℕ
words_swapped d = from_to (second_start d) (second_end d) ++ (from_to (first_end d) (second_start d) ++ from_to (first_start d) (first_end d))

-- The line with its two words exchanged. The cursor is behind them.
abbrev pub words_transposed : Split → Split
words_transposed d = line_with (first_start d) (words_swapped d) (second_end d)

-- Whether there is white space just before the cursor or just behind it.
abbrev pub is_beside_blank : Split → Bool
is_beside_blank d = begins_blank d.before || begins_blank d.after

-- The line without the white space around the cursor.
abbrev pub without_blanks : Split → Split
without_blanks d = line_with (record { before = unblanked d.before; after = [] }) [] (record { before = []; after = unblanked d.after })

-- The last word between white space of a line that has its cursor at its end.
abbrev pub last_word : Split → List ℕ
last_word d = reverse (unblanked (reverse (cut_text (Back Blank) d)))
