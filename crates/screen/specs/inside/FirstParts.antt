-- The first part of a text, as the code holds it.
use Rattle.std.specs.Prelude.{◌≡◌, ℕ, ◌<◌, ◌≤◌, Bool, true, false, List, [], ◌∷◌, ◌++◌, if◌then◌else◌, length, take}
use Rattle.std.specs.Char.{IsScalar}
use Rattle.screen.specs.declared.parts.Part.{Part}
use Rattle.screen.specs.Marks.{AreMarks, is_mark_of, most_marks}
use Rattle.screen.specs.Parts.{text_parts}

-- The marks that a text begins with, if a character is before it.
abbrev pub first_marks : ℕ → List ℕ → List ℕ
first_marks before [] = []
first_marks before (c ∷ text) = if is_mark_of before c then c ∷ first_marks c text else []

-- The text behind the marks that it begins with, if a character is before it.
abbrev pub behind_marks : ℕ → List ℕ → List ℕ
behind_marks before [] = []
behind_marks before (c ∷ text) = if is_mark_of before c then behind_marks c text else c ∷ text

-- Which marks a part has: all of them, or the first three if there are more, and then it is long.
abbrev pub HoldsMarks : Bool → List ℕ → List ℕ → Type 0
HoldsMarks false held marks = (held ≡ marks) × (length marks ≤ most_marks)
HoldsMarks true held marks = (held ≡ take most_marks marks) × (most_marks < length marks)

-- A part has a character of a text and the marks behind it.
abbrev pub IsPart : Part → List ℕ → Type 0
IsPart part [] = ⊥
IsPart part (c ∷ marks) = (part.symbol ≡ c) × IsScalar c × AreMarks c marks × HoldsMarks part.is_long part.marks marks

-- A part is the first one of a text, and what is behind it is `back`.
pub record IsFirstPart (text : List ℕ) (part : Part) (back : List ℕ) : Type 0 where
  pub front : List ℕ
  pub first : text_parts text ≡ front ∷ text_parts back
  pub joined : text ≡ front ++ back
  pub held : IsPart part front
