-- Words in capitals and in small letters.
use Rattle.std.specs.Prelude.{ℕ, List, [], ◌∷◌, if◌then◌else◌}
use Rattle.std.specs.Char.Unicode.ToLowercase.{to_lowercase}
use Rattle.std.specs.Char.Unicode.ToUppercase.{to_uppercase}
use Rattle.line_editor.specs.declared.actions.Case.{Case}
use Rattle.line_editor.specs.declared.actions.Case.TheVariants.{Upper, Lower, Title}
use Rattle.line_editor.specs.declared.places.Stop.TheVariants.{WordEnd}
use Rattle.line_editor.specs.declared.places.Target.TheVariants.{Forward}
use Rattle.line_editor.specs.Splits.{Split}
use Rattle.line_editor.specs.Edits.{cut_text, line_with}
use Rattle.line_editor.specs.Places.{target_place}
use Rattle.line_editor.specs.Shown.{is_shown}
use Rattle.line_editor.specs.Words.{is_of_word}

-- The only one of some characters, if there is just one and it is shown. Otherwise it is the character `c`.
abbrev pub only_shown : ℕ → List ℕ → ℕ
only_shown c (d ∷ []) = if is_shown d then d else c
only_shown c chars = c

-- A character as a capital. One that Unicode makes several characters of, as the German sharp s, stays.
abbrev pub upper : ℕ → ℕ
upper c = only_shown c (to_uppercase c)

-- A character as a small letter.
abbrev pub lower : ℕ → ℕ
lower c = only_shown c (to_lowercase c)

-- A character in a case. A title begins with a capital.
abbrev pub in_case : Case → ℕ → ℕ
in_case Upper c = upper c
in_case Lower c = lower c
in_case Title c = upper c

-- The case of what is behind a character: behind the first letter or digit of a title all letters are small.
abbrev pub case_behind : Case → ℕ → Case
case_behind Title c = if is_of_word c then Lower else Title
case_behind case c = case

-- A text in a case.
abbrev pub cased : Case → List ℕ → List ℕ
cased case [] = []
cased case (c ∷ text) = in_case case c ∷ cased (case_behind case c) text

-- The line with the part from the cursor to the next end of a word in a case. The cursor is behind that part.
abbrev pub recased : Case → Split → Split
recased case d = line_with d (cased case (cut_text (Forward WordEnd) d)) (target_place (Forward WordEnd) d)
