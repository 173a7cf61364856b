-- The parts of a text: a character with its marks.
use Rattle.std.specs.Prelude.{ℕ, List, [], ◌∷◌, if◌then◌else◌}
use Rattle.screen.specs.Marks.{is_mark_of}

-- The parts of a text with a character before it, which is in the first part if that begins with a mark of it.
abbrev pub before_parts : ℕ → List (List ℕ) → List (List ℕ)
before_parts c [] = (c ∷ []) ∷ []
before_parts c ([] ∷ ps) = (c ∷ []) ∷ ps
before_parts c ((d ∷ ds) ∷ ps) = if is_mark_of c d then (c ∷ d ∷ ds) ∷ ps else (c ∷ []) ∷ (d ∷ ds) ∷ ps

-- The parts of a text. A character begins a part unless it is a mark of the one before it.
abbrev pub text_parts : List ℕ → List (List ℕ)
text_parts [] = []
text_parts (c ∷ text) = before_parts c (text_parts text)
