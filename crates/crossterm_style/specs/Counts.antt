-- How many colours a terminal has, judging by its name.
use Rattle.std.specs.Prelude.{◌≡◌, ◌⊎◌, ℕ, List, ◌++◌, Option, Some, None, codes}
use Rattle.std.specs.Borrow.{Bor}

-- The text contains the part.
abbrev pub HasPart : List ℕ → List ℕ → Type 0
HasPart text part = (front : List ℕ) × (back : List ℕ) × (text ≡ front ++ (part ++ back))

-- The number is 65535 if the name contains `24bit` or `truecolor`, else 256 if it contains `256`, else 8.
abbrev pub CountsColors : List ℕ → ℕ → Type 0
CountsColors name count =
    ((HasPart name (codes "24bit") ⊎ HasPart name (codes "truecolor")) × (count ≡ 65535))
    ⊎ (¬ (HasPart name (codes "24bit")) × ¬ (HasPart name (codes "truecolor")) × HasPart name (codes "256") × (count ≡ 256))
    ⊎ (¬ (HasPart name (codes "24bit")) × ¬ (HasPart name (codes "truecolor")) × ¬ (HasPart name (codes "256")) × (count ≡ 8))

-- The number for the first of two names that is there, or 8 if neither is.
abbrev pub CountsColorsOf : Option (Bor (List ℕ)) → Option (Bor (List ℕ)) → ℕ → Type 0
CountsColorsOf (Some name) second count = CountsColors name.now count
CountsColorsOf None (Some name) count = CountsColors name.now count
CountsColorsOf None None count = count ≡ 8
