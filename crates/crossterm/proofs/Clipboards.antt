-- A copy's functions are well formed, and a selection's text as the selection.
use Rattle.std.proofs.Common.{◌≡◌, ◌≢◌, ℕ, zero, suc, ◌≤◌, ◌==◌, ◌&&◌, Bool, true, false, nat_le, List, [], ◌∷◌, ◌++◌, refl, ap, ◌∙◌, arith, codes, length, get_or, slice_index, map, replicate}
use Rattle.std.specs.List.{AllByRecursion}
use Rattle.std.specs.Char.{encode_utf8}
use Rattle.std.specs.Str.{chars, IsUtf8}
use Rattle.std.specs.Prelude.{encode_utf8_all}
use Rattle.std.proofs.lemmas.Bool.Decides.{nat_tests}
use Rattle.std.proofs.lemmas.Str.{chars-encodes, encodes-chars, IsUtf8-append, IsUtf8-from_ascii}
use Rattle.std.proofs.lemmas.Bool.{leb-true}
use Rattle.base64.proofs.EngineFacts.{IsAscii-encode_of}
use Rattle.base64.specs.Engines.{standard}
use Rattle.base64.specs.GeneralPurpose.{encode_of, engine_symbols}
use Rattle.base64.specs.Rfc4648.{encode_symbols, padding_len}
use Rattle.crossterm_command.specs.Tokens.{IsOscText, IsWellFormed}
use Rattle.crossterm_command.proofs.Readings.{all_joined, both}
use Rattle.crossterm.specs.declared.clipboard.ClipboardType.{ClipboardType}
use Rattle.crossterm.specs.declared.clipboard.ClipboardType.TheVariants.{Clipboard, Primary, Other}
use Rattle.crossterm.specs.Clipboard.{AreReadable, CopiesRead, IsNamed, TypesReadBack, ReadsSame, WritesBack, letter_of, copy_functions, by_own_name, selection_text, type_of}

-- ---- Base64

abbrev is_printable : ℕ → Bool
is_printable c = nat_le 32 c && nat_le c 126

pub quiet_at : (c : ℕ) → is_printable c ≡ true → IsOscText c
quiet_at c e =
    let (low, high) = both (nat_le 32 c) (nat_le c 126) e in
    let l : 32 ≤ c = leb-true 32 c low in
    let h : c ≤ 126 = leb-true c 126 high in
    ((λ e. omega arith), (λ e. omega arith))

abbrev all_printable : List ℕ → Bool
all_printable [] = true
all_printable (c ∷ cs) = is_printable c && all_printable cs

-- what is at a place of a list, or past it
quiet_in : (cs : List ℕ) → all_printable cs ≡ true → (i : ℕ) → IsOscText (get_or cs i 0)
quiet_in [] e i = ((λ e. omega arith), (λ e. omega arith))
quiet_in (c ∷ cs) e zero = let (first, rest) = both (is_printable c) (all_printable cs) e in quiet_at c first
quiet_in (c ∷ cs) e (suc i) = let (first, rest) = both (is_printable c) (all_printable cs) e in quiet_in cs rest i

-- all symbols of a message, if each of the table is
quiet_symbols : (t : List ℕ) → ((i : ℕ) → IsOscText (slice_index t i)) → (content : List ℕ) → AllByRecursion IsOscText (encode_symbols t content)
unfolding encode_symbols
quiet_symbols t at [] = tt
quiet_symbols t at (a ∷ []) = (at _, (at _, tt))
quiet_symbols t at (a ∷ b ∷ []) = (at _, (at _, (at _, tt)))
quiet_symbols t at (a ∷ b ∷ c ∷ rest) = (at _, (at _, (at _, (at _, quiet_symbols t at rest))))

quiet_padding : (n : ℕ) → AllByRecursion IsOscText (replicate n 61)
quiet_padding zero = tt
quiet_padding (suc n) = (quiet_at 61 refl, quiet_padding n)

quiet_base64 : (content : List ℕ) → AllByRecursion IsOscText (encode_of standard content)
quiet_base64 content =
    let t = engine_symbols standard in
    let padding = padding_len (length content) in
    all_joined IsOscText (encode_symbols t content) (replicate padding 61) (quiet_symbols t (quiet_in t refl) content) (quiet_padding padding)

-- ---- reading

front_utf8 : IsUtf8 (codes "52;")
unfolding encode_utf8
front_utf8 = (codes "52;", (refl, refl))

between_utf8 : IsUtf8 (codes ";")
unfolding encode_utf8
between_utf8 = (codes ";", (refl, refl))

pub copy_formed : (content : List ℕ) (types : List ClipboardType) → AreReadable types → AllByRecursion IsWellFormed (copy_functions content types)
copy_formed content types readable =
    let letters = selection_text types in
    let base64 = encode_of standard content in
    let places : IsUtf8 letters = (map letter_of types, (readable.0, refl)) in
    let utf8 : IsUtf8 (codes "52;" ++ (letters ++ (codes ";" ++ base64))) =
    IsUtf8-append (codes "52;") (letters ++ (codes ";" ++ base64)) front_utf8
    (IsUtf8-append letters (codes ";" ++ base64) places
    (IsUtf8-append (codes ";") base64 between_utf8 (IsUtf8-from_ascii base64 (IsAscii-encode_of standard content)))) in
    let tail : AllByRecursion IsOscText (codes ";" ++ base64) = (quiet_at 59 refl, quiet_base64 content) in
    let text : AllByRecursion IsOscText (codes "52;" ++ (letters ++ (codes ";" ++ base64))) =
    (quiet_at 53 refl, (quiet_at 50 refl, (quiet_at 59 refl, all_joined IsOscText letters (codes ";" ++ base64) readable.1 tail))) in
    ((utf8, text), tt)

pub copy_reads : CopiesRead
copy_reads content types readable = (copy_formed content types readable, refl)

-- ---- there and back

named_as : (place : ClipboardType) → type_of (letter_of place) ≡ by_own_name place
named_as Clipboard = refl
named_as Primary = refl
named_as (Other c) = refl

all_named_as : (types : List ClipboardType) → map type_of (map letter_of types) ≡ map by_own_name types
all_named_as [] = refl
all_named_as (t ∷ ts) = let first = named_as t in let rest = all_named_as ts in cc

pub reads_back : TypesReadBack
reads_back types scalars = ap (map type_of) (chars-encodes (map letter_of types) scalars) ∙ all_named_as types

test_fails : (c d : ℕ) → c ≢ d → (c == d) ≡ false
test_fails c d n = grind (arith, nat_tests)

same_name : (place : ClipboardType) → IsNamed place → by_own_name place ≡ place
same_name Clipboard n = refl
same_name Primary n = refl
same_name (Other c) n = rw (test_fails c 0x63 n.0, test_fails c 0x70 n.1) refl

same_names : (types : List ClipboardType) → AllByRecursion IsNamed types → map by_own_name types ≡ types
same_names [] a = refl
same_names (t ∷ ts) a = let first = same_name t a.0 in let rest = same_names ts a.1 in cc

pub reads_same : ReadsSame
reads_same types scalars a = reads_back types scalars ∙ same_names types a

letter_back : (c : ℕ) → letter_of (type_of c) ≡ c
letter_back c = grind (arith, nat_tests)

letters_back : (cs : List ℕ) → map letter_of (map type_of cs) ≡ cs
letters_back [] = refl
letters_back (c ∷ cs) = let first = letter_back c in let rest = letters_back cs in cc

pub writes_back : WritesBack
writes_back text u = ap encode_utf8_all (letters_back (chars text)) ∙ encodes-chars text u
