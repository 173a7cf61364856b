-- Fields of a sequence and their parts.
use Rattle.std.specs.Prelude.{ℕ, zero, suc, ◌==◌, if◌then◌else◌, List, [], ◌∷◌, Option, Some, None, option_and_then}
use Rattle.std.specs.Str.{byte}
use Rattle.crossterm_parse.specs.Number.{number}

-- Some texts, with one more byte in front of the first.
abbrev pub push_first : ℕ → List (List ℕ) → List (List ℕ)
push_first b [] = []
push_first b (x ∷ xs) = (b ∷ x) ∷ xs

-- A text cut at each separator. `1;2` at `;` is `1` and `2`, and the empty text is one empty part.
abbrev pub cut : ℕ → List ℕ → List (List ℕ)
cut separator [] = [] ∷ []
cut separator (b ∷ bs) = if b == separator then [] ∷ cut separator bs else push_first b (cut separator bs)

-- The text at this index, counted from 0; nothing past the end.
abbrev pub nth : ℕ → List (List ℕ) → Option (List ℕ)
nth k [] = None
nth zero (x ∷ xs) = Some x
nth (suc k) (x ∷ xs) = nth k xs

-- The number in the field at this index, from 0. Fields are between `;`.
abbrev pub field_number : ℕ → List ℕ → Option ℕ
field_number k text = option_and_then number (nth k (cut (byte ";") text))

-- The number in part `j` of field `k`, both counted from 0. Parts of a field are between `:`.
abbrev pub part_number : ℕ → ℕ → List ℕ → Option ℕ
part_number k j text = option_and_then (λ field. option_and_then number (nth j (cut (byte ":") field))) (nth k (cut (byte ";") text))
