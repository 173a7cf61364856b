-- The places to which a cursor goes.
use Rattle.std.specs.Prelude.{⊤, ℕ, true, false, not, ◌&&◌, List, [], ◌∷◌}
use Rattle.unicode_segmentation.specs.Grapheme.{is_grapheme_break}
use Rattle.unicode_segmentation.specs.Segments.{Rule}
use Rattle.line_editor.specs.declared.places.Stop.{Stop}
use Rattle.line_editor.specs.declared.places.Stop.TheVariants.{Cluster, WordStart, WordEnd, Blank, Edge}
use Rattle.line_editor.specs.declared.places.Target.{Target}
use Rattle.line_editor.specs.declared.places.Target.TheVariants.{Back, Forward}
use Rattle.line_editor.specs.Splits.{Split, ahead, last_stop}
use Rattle.line_editor.specs.Words.{begins_unblank, begins_with_word, ends_in_word}

-- Whether a place is between clusters: Unicode's rules for extended grapheme clusters (UAX 29) have a boundary there.
abbrev pub is_between : Rule
is_between = is_grapheme_break true

-- Whether a place is a stop. An edge has no stops, and any other stop is between clusters.
-- A word's start has a word behind it and none before it, and a word's end the reverse.
-- A stop of a blank has a character behind it that isn't white space, and none before it.
abbrev pub stops : Stop → Rule
stops Cluster before after = is_between before after
stops WordStart before after = is_between before after && (begins_with_word after && not (ends_in_word before))
stops WordEnd before after = is_between before after && (ends_in_word before && not (begins_with_word after))
stops Blank before after = is_between before after && (begins_unblank after && not (begins_unblank before))
stops Edge before after = false

-- The last stop before the cursor, or the start of the line if there is none.
abbrev pub back_from : Rule → List ℕ → List ℕ → Split
back_from stops [] after = record { before = []; after = after }
back_from stops (c ∷ before) after = last_stop stops before (c ∷ after)

-- The first stop behind the cursor, or the end of the line if there is none.
abbrev pub forward_from : Rule → List ℕ → List ℕ → Split
forward_from stops before [] = record { before = before; after = [] }
forward_from stops before (c ∷ after) = ahead stops (c ∷ before) after

-- The place to which a target brings the cursor, back or forward to a stop.
abbrev pub target_place : Target → Split → Split
target_place (Back stop) d = back_from (stops stop) d.before d.after
target_place (Forward stop) d = forward_from (stops stop) d.before d.after

-- The target is before the cursor.
abbrev pub IsBack : Target → Type 0
IsBack (Back stop) = ⊤
IsBack (Forward stop) = ⊥

-- The target is behind the cursor.
abbrev pub IsForward : Target → Type 0
IsForward (Back stop) = ⊥
IsForward (Forward stop) = ⊤
