-- How SGR parameters are read as colours.
use Rattle.std.specs.Prelude.{◌≡◌, ℕ, ◌<◌, List, [], ◌∷◌}
use Rattle.std.specs.Str.Parse.{IsNumeral, digits_value, without_leading_plus}
use Rattle.crossterm_style.specs.declared.types.color.Color.{Color}
use Rattle.crossterm_style.specs.declared.types.sgr.SgrColor.{SgrColor}
use Rattle.crossterm_style.specs.declared.types.sgr.SgrColor.TheVariants.{Own, Indexed, Rgb}
use Rattle.crossterm_style.specs.declared.types.colored.Colored.{Colored}
use Rattle.crossterm_style.specs.declared.types.colored.Colored.TheVariants.{ForegroundColor, BackgroundColor, UnderlineColor}
use Rattle.crossterm_style.specs.Colors.{color_of}

-- A field is the number of a byte: decimal digits, which may have a plus before them, and a value below 256.
abbrev pub ReadsByte : List ℕ → ℕ → Type 0
ReadsByte field n = IsNumeral 10 (without_leading_plus field) × (digits_value 10 (without_leading_plus field) ≡ n) × (n < 256)

-- Fields are an SGR colour: `5;n` an indexed one, `2;r;g;b` one by its parts, and no field follows.
abbrev pub ReadsInk : List (List ℕ) → SgrColor → Type 0
ReadsInk fields Own = ⊥
ReadsInk fields (Indexed n) = (form : List ℕ) × (value : List ℕ) × (fields ≡ form ∷ value ∷ []) × ReadsByte form 5 × ReadsByte value n
ReadsInk fields (Rgb r g b) = (form : List ℕ) × (red : List ℕ) × (green : List ℕ) × (blue : List ℕ)
    × (fields ≡ form ∷ red ∷ green ∷ blue ∷ []) × ReadsByte form 2 × ReadsByte red r × ReadsByte green g × ReadsByte blue b

-- Fields are an SGR colour, which is this colour.
abbrev pub ReadsColor : List (List ℕ) → Color → Type 0
ReadsColor fields c = (sgr : SgrColor) × ReadsInk fields sgr × (c ≡ color_of sgr)

-- Fields are the colour of a place: the number that sets it and the colour's fields, or the number that resets it
-- alone.
abbrev pub ReadsPlace : ℕ → ℕ → List (List ℕ) → SgrColor → Type 0
ReadsPlace set reset fields Own = (first : List ℕ) × (fields ≡ first ∷ []) × ReadsByte first reset
ReadsPlace set reset fields (Indexed n) = (first : List ℕ) × (rest : List (List ℕ)) × (fields ≡ first ∷ rest) × ReadsByte first set × ReadsInk rest (Indexed n)
ReadsPlace set reset fields (Rgb r g b) = (first : List ℕ) × (rest : List (List ℕ)) × (fields ≡ first ∷ rest) × ReadsByte first set × ReadsInk rest (Rgb r g b)

-- Fields are a colour at its place.
abbrev pub ReadsColored : List (List ℕ) → Colored → Type 0
ReadsColored fields (ForegroundColor c) = (sgr : SgrColor) × ReadsPlace 38 39 fields sgr × (c ≡ color_of sgr)
ReadsColored fields (BackgroundColor c) = (sgr : SgrColor) × ReadsPlace 48 49 fields sgr × (c ≡ color_of sgr)
ReadsColored fields (UnderlineColor c) = (sgr : SgrColor) × ReadsPlace 58 59 fields sgr × (c ≡ color_of sgr)
