-- The fields of a text, and how they are taken one after another.
use Rattle.std.specs.Prelude.{◌≡◌, ◌≢◌, ℕ, ◌==◌, List, [], ◌∷◌, Option, Some, None, MatchOption}
use Rattle.std.specs.List.{slice_split}
use Rattle.std.specs.Borrow.{Bor}
use Rattle.crossterm_style.specs.declared.types.color.Color.{Color}
use Rattle.crossterm_style.specs.declared.types.color.Color.TheVariants.{Reset}
use Rattle.crossterm_style.specs.declared.types.colored.Colored.{Colored}
use Rattle.crossterm_style.specs.declared.types.colored.Colored.TheVariants.{ForegroundColor, BackgroundColor, UnderlineColor}
use Rattle.crossterm_command.specs.declared.color_output.ColorOutput.TheVariants.{Enabled}
use Rattle.crossterm_style.specs.Colors.{colored_text, with_name, FitsColored}
use Rattle.crossterm_style.specs.Reading.{ReadsByte, ReadsColor, ReadsColored}

-- The fields of a text between semicolons. There is at least one.
abbrev pub fields : List ℕ → List (List ℕ)
fields text = slice_split (λ b. b == 59) text

-- The result is the colour that the fields of a text read as, or `None` if they read as none.
abbrev pub IsColorRead : List ℕ → Option Color → Type 0
IsColorRead text result = MatchOption result ((c : Color) → ReadsColor (fields text) c → ⊥) (ReadsColor (fields text))

-- The result is the colour at its place that the fields of a text read as, or `None` if they read as none.
abbrev pub IsColoredRead : List ℕ → Option Colored → Type 0
IsColoredRead text result = MatchOption result ((c : Colored) → ReadsColored (fields text) c → ⊥) (ReadsColored (fields text))

-- Fields read as one colour at most.
abbrev pub OneColor : Type 0
OneColor = (fields : List (List ℕ)) (c d : Color) → ReadsColor fields c → ReadsColor fields d → c ≡ d

-- Fields read as one colour at its place at most.
abbrev pub OneColored : Type 0
OneColored = (fields : List (List ℕ)) (c d : Colored) → ReadsColored fields c → ReadsColored fields d → c ≡ d

-- The SGR parameters of a colour at its place read as that colour, by its name if it is one of the palette's first
-- sixteen.
abbrev pub TextIsReadBack : Type 0
TextIsReadBack = (c : Colored) (result : Option Colored) → FitsColored c → IsColoredRead (colored_text Enabled c) result → result ≡ Some (with_name c)

-- ---- one field after another

-- The fields that are left to read, or none if no text is left.
abbrev pub fields_left : Option (Bor (List ℕ)) → List (List ℕ)
fields_left None = []
fields_left (Some text) = fields text.now

-- The first field is the number of a byte, and these fields follow.
abbrev pub BeginsWith : List (List ℕ) → ℕ → List (List ℕ) → Type 0
BeginsWith fields n rest = (first : List ℕ) × (fields ≡ first ∷ rest) × ReadsByte first n

-- There is no first field that is the number of a byte.
abbrev pub BeginsWithNone : List (List ℕ) → Type 0
BeginsWithNone fields = (n : ℕ) (rest : List (List ℕ)) → BeginsWith fields n rest → ⊥

-- The fields are exactly three numbers of bytes.
abbrev pub AreParts : List (List ℕ) → ℕ → ℕ → ℕ → Type 0
AreParts fields r g b = (second : List (List ℕ)) × (third : List (List ℕ)) × BeginsWith fields r second × BeginsWith second g third × BeginsWith third b []

-- The number resets a place to the terminal's own colour: 39 the foreground, 49 the background, 59 the underline.
abbrev pub Resets : ℕ → Colored → Type 0
Resets n (ForegroundColor c) = (n ≡ 39) × (c ≡ Reset)
Resets n (BackgroundColor c) = (n ≡ 49) × (c ≡ Reset)
Resets n (UnderlineColor c) = (n ≡ 59) × (c ≡ Reset)

-- The number resets no place.
abbrev pub ResetsNone : ℕ → Type 0
ResetsNone n = (n ≢ 39) × (n ≢ 49) × (n ≢ 59)

-- The number sets a place to the colour: 38 the foreground, 48 the background, 58 the underline.
abbrev pub SetsPlace : ℕ → Color → Colored → Type 0
SetsPlace n color (ForegroundColor c) = (n ≡ 38) × (c ≡ color)
SetsPlace n color (BackgroundColor c) = (n ≡ 48) × (c ≡ color)
SetsPlace n color (UnderlineColor c) = (n ≡ 58) × (c ≡ color)

-- The number sets no place.
abbrev pub SetsNone : ℕ → Type 0
SetsNone n = (n ≢ 38) × (n ≢ 48) × (n ≢ 58)
