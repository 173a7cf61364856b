-- Numbers, fields and UTF-8, as much as is kept of them while they are read.
use Rattle.std.specs.Prelude.{◌≡◌, ℕ, ◌++◌, true, List, [], ◌∷◌, Some, ◌<◌, ◌≤◌, None, ◌^◌}
use Rattle.std.specs.Str.{byte, IsUtf8}
use Rattle.crossterm_parse.specs.Fields.{cut}
use Rattle.crossterm_parse.specs.Numbered.{last_of}
use Rattle.crossterm_parse.specs.declared.character.Begun.{Begun}
use Rattle.crossterm_parse.specs.declared.character.Begun.TheVariants.{One, Two, Three}
use Rattle.crossterm_parse.specs.declared.number.Number.{Number}
use Rattle.crossterm_parse.specs.declared.number.Number.TheVariants.{Empty, Bad, Plus, Value, Big}
use Rattle.crossterm_parse.specs.declared.numbered.Parameters.{Parameters}
use Rattle.crossterm_parse.specs.declared.utf8.Validity.{Validity}
use Rattle.crossterm_parse.specs.declared.utf8.Validity.TheVariants.{Sound, Partial, Broken}
use Rattle.crossterm_parse.specs.declared.fields.Field.{Field}
use Rattle.crossterm_parse.specs.declared.fields.Part.{Part}
use Rattle.crossterm_parse.specs.declared.fields.Fields.{Fields}
use Rattle.crossterm_parse.specs.Number.{value_of}
use Rattle.bstr.specs.Utf8.{second, continues}
use Rattle.crossterm_parse.specs.declared.fields.Part.TheVariants as part
use Rattle.crossterm_parse.specs.declared.fields.Place.TheVariants as place

-- A number that is being read agrees with its text so far. `Bad` says that neither it nor any longer text is a number.
abbrev pub Tracks : List ℕ → Number → Type 0
Tracks text Empty = text ≡ []
Tracks text Plus = text ≡ byte "+" ∷ []
Tracks text (Value n) = (value_of text ≡ Some n) × (n < 2 ^ 32)
Tracks text Big = (n : ℕ) × (value_of text ≡ Some n) × (2 ^ 32 ≤ n)
Tracks text Bad = (more : List ℕ) → value_of (text ++ more) ≡ None

-- A field before its first byte.
abbrev pub empty_field : Field
empty_field = record { first = Empty; second = Empty; part = part.First }

-- The number of a whole field, by the part that is being read: `Bad` if that isn't its first part.
abbrev pub whole_at : Part → Number → Number
whole_at part.First n = n
whole_at part.Second n = Bad
whole_at part.Later n = Bad

-- A field as one number: that of its first part, or `Bad` if it has more parts.
abbrev pub whole_of : Field → Number
whole_of f = whole_at f.part f.first

-- A field agrees with the parts of its text: which part is being read, and the numbers of the first two.
abbrev pub ReadsParts : Field → List (List ℕ) → Type 0
ReadsParts f [] = ⊥
ReadsParts f (x ∷ []) = (f.part ≡ part.First) × Tracks x f.first × (f.second ≡ Empty)
ReadsParts f (x ∷ y ∷ []) = (f.part ≡ part.Second) × Tracks x f.first × Tracks y f.second
ReadsParts f (x ∷ y ∷ z ∷ zs) = (f.part ≡ part.Later) × Tracks x f.first × Tracks y f.second

-- A field agrees with its text, as one number and by its parts.
abbrev pub ReadsField : Field → List ℕ → Type 0
ReadsField f text = Tracks text (whole_of f) × ReadsParts f (cut (byte ":") text)

-- The fields agree with those of a text: which one is being read, and the numbers of the first three.
abbrev pub ReadsFields : Fields → List (List ℕ) → Type 0
ReadsFields f [] = ⊥
ReadsFields f (x ∷ []) = (f.place ≡ place.First) × ReadsField f.first x × (f.second ≡ empty_field) × (f.third ≡ Empty)
ReadsFields f (x ∷ y ∷ []) = (f.place ≡ place.Second) × ReadsField f.first x × ReadsField f.second y × (f.third ≡ Empty)
ReadsFields f (x ∷ y ∷ z ∷ []) = (f.place ≡ place.Third) × ReadsField f.first x × ReadsField f.second y × Tracks z f.third
ReadsFields f (x ∷ y ∷ z ∷ w ∷ ws) = (f.place ≡ place.Later) × ReadsField f.first x × ReadsField f.second y × Tracks z f.third

-- The bytes of a character that is being read.
abbrev pub begun_bytes : Begun → List ℕ
begun_bytes (One a) = a ∷ []
begun_bytes (Two a b) = a ∷ b ∷ []
begun_bytes (Three a b c) = a ∷ b ∷ c ∷ []

-- The bytes are a front of a character in UTF-8, but not the whole character.
abbrev pub IsFront : Begun → Type 0
IsFront (One a) = (0xC2 ≤ a) × (a ≤ 0xF4)
IsFront (Two a b) = (0xE0 ≤ a) × (a ≤ 0xF4) × (second a b ≡ true)
IsFront (Three a b c) = (0xF0 ≤ a) × (a ≤ 0xF4) × (second a b ≡ true) × (continues c ≡ true)

-- The validity agrees with the text so far: UTF-8, UTF-8 up to an unfinished character, or not UTF-8 whatever follows.
abbrev pub TracksUtf8 : List ℕ → Validity → Type 0
TracksUtf8 text Sound = IsUtf8 text
TracksUtf8 text (Partial begun) = (good : List ℕ) × IsUtf8 good × (text ≡ good ++ begun_bytes begun) × IsFront begun
TracksUtf8 text Broken = (more : List ℕ) → ¬ (IsUtf8 (text ++ more))

-- A text that is being read agrees with what is kept of it: its fields, its last byte, and whether it is UTF-8.
pub record KeptAgrees (d : Parameters) (text : List ℕ) : Type 0 where
  pub reads : ReadsFields d.fields (cut (byte ";") text)
  pub last : d.last ≡ last_of text
  pub utf8 : TracksUtf8 text d.validity
