-- Words, and white space.
use Rattle.std.specs.Prelude.{ℕ, Bool, false, not, ◌&&◌, ◌||◌, ◌==◌, List, [], ◌∷◌, if◌then◌else◌, Option, Some, None}
use Rattle.std.specs.Char.{is_whitespace}
use Rattle.std.specs.Char.Unicode.Alphabetic.{is_alphabetic}
use Rattle.std.specs.Char.Unicode.Numeric.{is_numeric}
use Rattle.unicode_width.specs.Width.{char_width}

-- Whether there is a width, and it is 0.
abbrev pub is_zero : Option ℕ → Bool
is_zero None = false
is_zero (Some width) = width == 0

-- Whether a character is a mark: it takes no column, as a combining accent.
abbrev pub takes_no_column : ℕ → Bool
takes_no_column c = is_zero (char_width false c)

-- Whether a character is one of words: a letter or a digit.
abbrev pub is_of_word : ℕ → Bool
is_of_word c = is_alphabetic c || is_numeric c

-- Whether characters, nearest first, end in a word. Marks at the end belong to the character before them.
abbrev pub ends_in_word : List ℕ → Bool
ends_in_word [] = false
ends_in_word (c ∷ before) = is_of_word c || (takes_no_column c && ends_in_word before)

-- Whether the first character is one of words.
abbrev pub begins_with_word : List ℕ → Bool
begins_with_word [] = false
begins_with_word (c ∷ after) = is_of_word c

-- Whether there is a first character, and it isn't white space.
abbrev pub begins_unblank : List ℕ → Bool
begins_unblank [] = false
begins_unblank (c ∷ chars) = not (is_whitespace c)

-- Whether there is a first character, and it is white space.
abbrev pub begins_blank : List ℕ → Bool
begins_blank [] = false
begins_blank (c ∷ chars) = is_whitespace c

-- The characters without the white space at their beginning.
abbrev pub unblanked : List ℕ → List ℕ
unblanked [] = []
unblanked (c ∷ chars) = if is_whitespace c then unblanked chars else c ∷ chars
