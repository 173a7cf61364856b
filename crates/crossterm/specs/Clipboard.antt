-- The destinations of a copy, by their letters, and what a copy writes.
use Rattle.std.specs.Prelude.{◌≡◌, ◌≢◌, ℕ, ◌==◌, true, ⊤, List, [], ◌∷◌, ◌++◌, if◌then◌else◌, map, codes, encode_utf8_all}
use Rattle.std.specs.Str.{all_scalars, chars, IsUtf8}
use Rattle.std.specs.List.{AllByRecursion}
use Rattle.base64.specs.GeneralPurpose.{encode_of}
use Rattle.base64.specs.Engines.{standard}
use Rattle.crossterm_command.specs.Tokens.{Token, IsOscText, ReadsAs, text_of}
use Rattle.crossterm_command.specs.Tokens.OscEnd.{St}
use Rattle.crossterm_command.specs.Tokens.Token.{Osc}
use Rattle.crossterm.specs.declared.clipboard.ClipboardType.{ClipboardType}
use Rattle.crossterm.specs.declared.clipboard.ClipboardType.TheVariants.{Clipboard, Primary, Other}

-- The letter of a destination.
abbrev pub letter_of : ClipboardType → ℕ
letter_of Clipboard = 0x63
letter_of Primary = 0x70
letter_of (Other c) = c

-- The destination of a letter.
abbrev pub type_of : ℕ → ClipboardType
type_of c = if c == 0x63 then Clipboard else if c == 0x70 then Primary else Other c

-- The letters of destinations, in UTF-8.
abbrev pub selection_text : List ClipboardType → List ℕ
selection_text types = encode_utf8_all (map letter_of types)

-- The destinations of a text's letters.
abbrev pub selection_of : List ℕ → List ClipboardType
selection_of text = map type_of (chars text)

-- A copy of these bytes to these destinations: one operating system command.
abbrev pub copy_functions : List ℕ → List ClipboardType → List Token
copy_functions content types = Osc (codes "52;" ++ (selection_text types ++ (codes ";" ++ encode_of standard content))) St ∷ []

-- The letters are characters, as every `char` is. None of them is ESC or a bell, which would end the text.
abbrev pub AreReadable : List ClipboardType → Type 0
AreReadable types = (all_scalars (map letter_of types) ≡ true) × AllByRecursion IsOscText (selection_text types)

-- A terminal reads a copy's text as that command.
abbrev pub CopiesRead : Type 0
CopiesRead = (content : List ℕ) (types : List ClipboardType) → AreReadable types → ReadsAs (text_of (copy_functions content types)) (copy_functions content types)

-- ---- there and back

-- A destination by its own name: `Other` with the letter of another one is that one.
abbrev pub by_own_name : ClipboardType → ClipboardType
by_own_name Clipboard = Clipboard
by_own_name Primary = Primary
by_own_name (Other c) = type_of c

-- A destination that goes by its own name.
abbrev pub IsNamed : ClipboardType → Type 0
IsNamed Clipboard = ⊤
IsNamed Primary = ⊤
IsNamed (Other c) = (c ≢ 0x63) × (c ≢ 0x70)

-- Reading the text of destinations gives them by their own names, if their letters are characters.
abbrev pub TypesReadBack : Type 0
TypesReadBack = (types : List ClipboardType) → all_scalars (map letter_of types) ≡ true → selection_of (selection_text types) ≡ map by_own_name types

-- Reading the text of destinations gives them back, if each goes by its own name.
abbrev pub ReadsSame : Type 0
ReadsSame = (types : List ClipboardType) → all_scalars (map letter_of types) ≡ true → AllByRecursion IsNamed types → selection_of (selection_text types) ≡ types

-- Writing the destinations of a text gives the text.
abbrev pub WritesBack : Type 0
WritesBack = (text : List ℕ) → IsUtf8 text → selection_text (selection_of text) ≡ text
