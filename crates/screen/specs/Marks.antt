-- Marks: characters of no column that belong to the character before them.
use Rattle.std.specs.Prelude.{◌≡◌, ⊤, ℕ, ◌==◌, ◌&&◌, ◌||◌, not, Bool, true, false, List, [], ◌∷◌, Option, Some, None}
use Rattle.std.specs.Char.{IsScalar}
use Rattle.std.specs.Int.{is_in_range}
use Rattle.ucd_breaks.specs.GraphemeClusterBreak.{grapheme_cluster_break}
use Rattle.unicode_segmentation.specs.Grapheme.{break_by_pair}
use Rattle.unicode_width.specs.Width.{char_width}

-- Whether a character has a width and it is `n`.
abbrev pub is_width : ℕ → Option ℕ → Bool
is_width n None = false
is_width n (Some width) = width == n

-- Whether a character takes no column.
abbrev pub takes_none : ℕ → Bool
takes_none c = is_width 0 (char_width false c)

-- Whether some terminals join a character with its neighbours: a joiner, a selector of text or emoji, a flag's letter,
-- a skin tone, a tag.
abbrev pub is_joined : ℕ → Bool
is_joined c =
    (c == 0x200D) || (is_in_range 0xFE0E 0xFE0F c || (is_in_range 0x1F1E6 0x1F1FF c || (is_in_range 0x1F3FB 0x1F3FF c || is_in_range 0xE0020 0xE007F c)))

-- Whether the answer of a rule is that two characters stay together.
abbrev pub is_together : Option Bool → Bool
is_together None = false
is_together (Some breaks) = not breaks

-- Whether UAX 29 puts both characters in one cluster, by the rules that read only the two of them.
abbrev pub is_kept_with : ℕ → ℕ → Bool
is_kept_with before c = is_together (break_by_pair true (grapheme_cluster_break before) (grapheme_cluster_break c))

-- Whether a character is a mark of the one before it: it takes no column, isn't joined, and is in its cluster.
abbrev pub is_mark_of : ℕ → ℕ → Bool
is_mark_of before c = (takes_none c && not (is_joined c)) && is_kept_with before c

-- Each is a Unicode scalar value and a mark of the one before it.
abbrev pub AreMarks : ℕ → List ℕ → Type 0
AreMarks before [] = ⊤
AreMarks before (m ∷ marks) = IsScalar m × (is_mark_of before m ≡ true) × AreMarks m marks

-- How many marks a cell holds at most.
abbrev pub most_marks : ℕ
most_marks = 3
