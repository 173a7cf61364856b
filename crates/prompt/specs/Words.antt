-- How names complete the word before the cursor. Texts are their bytes in UTF-8, unless it is said otherwise.
use Rattle.std.specs.Prelude.{ℕ, ◌==◌, ◌||◌, Bool, not, cond, encode_utf8_all, List, [], ◌∷◌, Option, Some, None, if◌then◌else◌, drop, length, map, reverse}
use Rattle.std.specs.Borrow.{Bor}
use Rattle.std.specs.List.{filter, starts_with, take_while}
use Rattle.std.specs.Str.{chars}

-- The word at the end of a text: what is behind its last blank or line feed.
abbrev pub word_at_end : List ℕ → List ℕ
word_at_end text = reverse (take_while (λ b. not (b == 32 || b == 10)) (reverse text))

-- Whether a name begins with a text.
abbrev pub begins_with : List ℕ → List ℕ → Bool
begins_with text name = starts_with (λ a b. a == b) name text

-- The names that begin with a text, in their order.
abbrev pub names_among : List ℕ → List (List ℕ) → List (List ℕ)
names_among text names = filter (begins_with text) names

-- The same of names that are borrowed.
abbrev pub names_with : List ℕ → List (Bor (List ℕ)) → List (List ℕ)
names_with text names = names_among text (map (λ n. n.now) names)

-- What a name has behind a text with which it begins, or nothing.
abbrev pub rest_of : List ℕ → List ℕ → List ℕ
rest_of text name = cond (begins_with text name) (drop (length text) name) []

-- A rest if there is one, otherwise another.
abbrev pub rest_or : List ℕ → Option (List ℕ) → Option (List ℕ)
rest_or [] other = other
rest_or (b ∷ rest) other = Some (b ∷ rest)

-- The rest of the first name that begins with a text and goes on.
abbrev pub rest_among : List ℕ → List (Bor (List ℕ)) → Option (List ℕ)
rest_among text [] = None
rest_among text (name ∷ names) = rest_or (rest_of text name.now) (rest_among text names)

-- The same, but an empty text has none.
abbrev pub first_rest : List ℕ → List (Bor (List ℕ)) → Option (List ℕ)
first_rest [] names = None
first_rest (b ∷ text) names = rest_among (b ∷ text) names

-- A rest if there is one, otherwise nothing.
abbrev pub or_nothing : Option (List ℕ) → List ℕ
or_nothing None = []
or_nothing (Some rest) = rest

-- The characters with which two lists of them begin both.
abbrev pub common : List ℕ → List ℕ → List ℕ
common [] others = []
common (c ∷ text) [] = []
common (c ∷ text) (d ∷ others) = if c == d then c ∷ common text others else []

-- The same of all of these, and of another one if it is there.
abbrev pub common_to : Option (List ℕ) → List (List ℕ) → Option (List ℕ)
common_to found [] = found
common_to None (text ∷ texts) = common_to (Some text) texts
common_to (Some front) (text ∷ texts) = common_to (Some (common front text)) texts

-- A text of characters, unless it is empty.
abbrev pub text_unless_empty : Option (List ℕ) → Option (List ℕ)
text_unless_empty None = None
text_unless_empty (Some []) = None
text_unless_empty (Some (c ∷ text)) = Some (encode_utf8_all (c ∷ text))

-- What all names that begin with a text have in common behind it, if that isn't empty.
abbrev pub common_among : List ℕ → List (List ℕ) → Option (List ℕ)
common_among text names = text_unless_empty (common_to None (map (λ n. chars (rest_of text n)) (names_among text names)))

-- The same of names that are borrowed.
abbrev pub common_rest : List ℕ → List (Bor (List ℕ)) → Option (List ℕ)
common_rest text names = common_among text (map (λ n. n.now) names)

-- The text that completes a word: an empty one has none.
abbrev pub completion_among : List ℕ → List (List ℕ) → Option (List ℕ)
completion_among [] names = None
completion_among (b ∷ word) names = common_among (b ∷ word) names

-- The same by names that are borrowed.
abbrev pub completion : List ℕ → List (Bor (List ℕ)) → Option (List ℕ)
completion word names = completion_among word (map (λ n. n.now) names)
