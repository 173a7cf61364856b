-- How colours are written as JSON, and which JSON reads as them.
use Rattle.std.specs.Prelude.{◌≡◌, ℕ, zero, suc, ◌+◌, ◌-◌, ◌*◌, ◌<◌, ◌==◌, ◌&&◌, ◌||◌, ◌⊎◌, ⊤, nat_lt, Bool, true, false, List, [], ◌∷◌, ◌++◌, length, slice_index, Option, Some, None, MatchResult, codes, if◌then◌else◌}
use Rattle.std.specs.Char.{digit_value}
use Rattle.std.specs.Fmt.{decimal}
use Rattle.std.specs.List.{slice_split}
use Rattle.std.specs.Option.{option_and_then, option_map, option_or}
use Rattle.std.specs.Str.{str_to_ascii_lowercase}
use Rattle.std.specs.Str.Parse.{digits_value, without_leading_plus}
use Rattle.std.specs.declared.result.Result.{Result}
use Rattle.serde_json.specs.Data.{Data, string}
use Rattle.serde_json.specs.Find.{as_str}
use Rattle.crossterm_flags.specs.Values.{one_member, reads_member, same}
use Rattle.crossterm_flags.specs.Variants.{name_in}
use Rattle.crossterm_flags.specs.declared.value.ValueFault.{ValueFault}
use Rattle.crossterm_flags.specs.declared.value.ValueFault.TheVariants.{Memory, Shape}
use Rattle.crossterm_style.specs.ColorNames.{names}
use Rattle.crossterm_style.specs.contracts.types.color.ColorPartialEq.TheImpl as color_eq
use Rattle.crossterm_style.specs.declared.types.color.Color.{Color}
use Rattle.crossterm_style.specs.declared.types.color.Color.TheVariants as color
use Rattle.crossterm_style.specs.declared.types.colored.Colored.{Colored}
use Rattle.crossterm_style.specs.declared.types.colored.Colored.TheVariants as colored

-- ---- the text of a colour

-- The name of a colour that has one.
abbrev pub color_name : Color → List ℕ
color_name = name_in color_eq.ghosts.eq names

-- The text of a colour: `ansi_(9)` for one of the palette, `rgb_(1,2,3)` for one by its parts, or its name.
abbrev pub color_text : Color → List ℕ
color_text (color.AnsiValue n) = codes "ansi_(" ++ (decimal n ++ codes ")")
color_text (color.Rgb r g b) = codes "rgb_(" ++ (decimal r ++ (codes "," ++ (decimal g ++ (codes "," ++ (decimal b ++ codes ")")))))
color_text c = color_name c

-- ---- what a text reads as

-- The colour of the first entry whose name is the text in small ASCII letters, or `None`.
abbrev pub color_in : List (List ℕ × Color) → List ℕ → Option Color
color_in [] text = None
color_in (e ∷ es) text = if same (str_to_ascii_lowercase text) e.0 then Some e.1 else color_in es text

-- Whether a text begins with a part.
abbrev pub text_begins : List ℕ → List ℕ → Bool
text_begins [] text = true
text_begins (p ∷ ps) [] = false
text_begins (p ∷ ps) (x ∷ xs) = p == x && text_begins ps xs

-- Whether a text contains a part.
abbrev pub holds : List ℕ → List ℕ → Bool
holds part [] = text_begins part []
holds part (x ∷ xs) = text_begins part (x ∷ xs) || holds part xs

-- A text without a part, wherever it occurs, from left to right. The first `skip` bytes are left out.
abbrev pub without_after : List ℕ → ℕ → List ℕ → List ℕ
without_after part skip [] = []
without_after part (suc skip) (x ∷ xs) = without_after part skip xs
without_after part zero (x ∷ xs) = if text_begins part (x ∷ xs) then without_after part (length part - 1) xs else x ∷ without_after part 0 xs

-- A text without a part, wherever it occurs, from left to right.
abbrev pub without : List ℕ → List ℕ → List ℕ
without part text = without_after part 0 text

-- Whether all characters are decimal digits.
abbrev pub all_digits : List ℕ → Bool
all_digits [] = true
all_digits (d ∷ ds) = nat_lt (digit_value d) 10 && all_digits ds

-- The number of decimal digits if it is below 256. `None` otherwise, or if there are no digits.
abbrev pub digits_byte : List ℕ → Option ℕ
digits_byte ds = if nat_lt 0 (length ds) && (all_digits ds && nat_lt (digits_value 10 ds) 256) then Some (digits_value 10 ds) else None

-- The number below 256 of decimal digits, which may have a plus before them, or `None`.
abbrev pub byte_of : List ℕ → Option ℕ
byte_of text = digits_byte (without_leading_plus text)

-- The colour of three parts, or `None` if one is missing.
abbrev pub rgb_of : Option ℕ → Option ℕ → Option ℕ → Option Color
rgb_of (Some r) (Some g) (Some b) = Some (color.Rgb r g b)
rgb_of _ _ _ = None

-- The only three fields, or `None` if there aren't exactly three.
abbrev pub three_of : List (List ℕ) → Option (List ℕ × List ℕ × List ℕ)
three_of (a ∷ b ∷ c ∷ []) = Some (a, b, c)
three_of _ = None

-- The colour of three fields that are numbers of bytes, or `None`.
abbrev pub fields_rgb : List (List ℕ) → Option Color
fields_rgb fields = option_and_then (λ parts. rgb_of (byte_of parts.0) (byte_of parts.1) (byte_of parts.2)) (three_of fields)

-- The value of a hexadecimal digit, or `None` for another character.
abbrev pub hex_digit : ℕ → Option ℕ
hex_digit c = if nat_lt (digit_value c) 16 then Some (digit_value c) else None

-- The value of two hexadecimal digits, or of a plus and one digit, or `None`.
abbrev pub hex_byte : ℕ → ℕ → Option ℕ
hex_byte a b = if a == 43 then hex_digit b else option_and_then (λ high. option_map (λ low. high * 16 + low) (hex_digit b)) (hex_digit a)

-- The colour of `#` and six hexadecimal digits, two for each part, or `None`. A plus may replace the first digit of a
-- part.
abbrev pub hex_rgb : List ℕ → Option Color
hex_rgb text =
    if length text == 7 && (slice_index text 0 == 35)
    then rgb_of (hex_byte (slice_index text 1) (slice_index text 2)) (hex_byte (slice_index text 3) (slice_index text 4)) (hex_byte (slice_index text 5) (slice_index text 6))
    else None

-- A text without a mark and without closing parentheses, wherever they occur.
abbrev pub unmarked : List ℕ → List ℕ → List ℕ
unmarked mark text = without (codes ")") (without mark text)

-- The colour of a text that is no name: with `ansi` or `rgb` in it by its numbers, otherwise by its hexadecimal
-- digits. `None` if it has none.
abbrev pub unnamed : List ℕ → Option Color
unnamed text =
    if holds (codes "ansi") text then option_map color.AnsiValue (byte_of (unmarked (codes "ansi_(") text)) else (
    if holds (codes "rgb") text then fields_rgb (slice_split (λ b. b == 44) (unmarked (codes "rgb_(") text)) else
    hex_rgb text)

-- The colour that a text reads as: by its name, otherwise by its numbers, or `None`.
abbrev pub read_color : List ℕ → Option Color
read_color text = option_or (color_in names text) (unnamed text)

-- The colour that a JSON value reads as, or `None` if it isn't the text of one.
abbrev pub reads_color : Data → Option Color
reads_color d = option_and_then read_color (as_str d)

-- ---- a colour at its place

-- A colour at its place as a JSON object: its only member has the place as its name and the colour as its text.
abbrev pub colored_value : Colored → Data
colored_value (colored.ForegroundColor c) = one_member (codes "ForegroundColor") (string (color_text c))
colored_value (colored.BackgroundColor c) = one_member (codes "BackgroundColor") (string (color_text c))
colored_value (colored.UnderlineColor c) = one_member (codes "UnderlineColor") (string (color_text c))

-- The colour at its place that a member reads as, or `None` if its name or its value is wrong.
abbrev pub place_of_color : List ℕ × Data → Option Colored
place_of_color held =
    if same held.0 (codes "ForegroundColor") then option_map colored.ForegroundColor (reads_color held.1) else (
    if same held.0 (codes "BackgroundColor") then option_map colored.BackgroundColor (reads_color held.1) else (
    if same held.0 (codes "UnderlineColor") then option_map colored.UnderlineColor (reads_color held.1) else
    None))

-- The colour at its place that a JSON value reads as, or `None`.
abbrev pub reads_colored : Data → Option Colored
reads_colored d = option_and_then place_of_color (reads_member d)

-- Whether a text is copied to be read: it is no colour's name, and contains `ansi` or `rgb`.
abbrev is_copied : Option Color → List ℕ → Bool
is_copied (Some named) text = false
is_copied None text = holds (codes "ansi") text || holds (codes "rgb") text

-- Whether a text is copied to be read as a colour.
abbrev pub copies : List ℕ → Bool
copies text = is_copied (color_in names text) text

-- Whether there is a text, and it is copied to be read as a colour.
abbrev pub copies_some : Option (List ℕ) → Bool
copies_some (Some text) = copies text
copies_some None = false

-- Whether there is a member, and its text is copied to be read as a colour.
abbrev pub copies_member : Option (List ℕ × Data) → Bool
copies_member (Some held) = copies_some (as_str held.1)
copies_member None = false

-- The result is what was read, `Shape` if nothing was, or `Memory`. Memory can only be refused if a copy is made.
abbrev pub ReadsOrRefused : {X : Type 0} → Bool → Option X → Result X ValueFault → Type 0
ReadsOrRefused copied reading result = MatchResult result (λ x. reading ≡ Some x) (λ fault. ((fault ≡ Memory) × (copied ≡ true)) ⊎ ((fault ≡ Shape) × (reading ≡ None)))

-- The numbers of a colour are bytes.
abbrev pub FitsColor : Color → Type 0
FitsColor (color.AnsiValue n) = n < 256
FitsColor (color.Rgb r g b) = (r < 256) × (g < 256) × (b < 256)
FitsColor _ = ⊤

-- The numbers of a colour at its place are bytes.
abbrev pub FitsPlace : Colored → Type 0
FitsPlace (colored.ForegroundColor c) = FitsColor c
FitsPlace (colored.BackgroundColor c) = FitsColor c
FitsPlace (colored.UnderlineColor c) = FitsColor c
