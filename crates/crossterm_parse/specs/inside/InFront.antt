-- Sequences whose numbers are plain, and are read at once.
use Rattle.std.specs.Prelude.{◌≡◌, ◌≢◌, ◌≤◌, ℕ, Bool, true, List, [], ◌∷◌, ◌++◌, length, take}
use Rattle.std.specs.List.{AllByRecursion}
use Rattle.crossterm_parse.specs.Bytes.{is_digit}
use Rattle.crossterm_parse.specs.Transitions.{Opens, readings_at, state_after, fields_of, number_after, Whole}
use Rattle.crossterm_parse.specs.declared.fields.Field.{Field}
use Rattle.crossterm_parse.specs.declared.fields.Fields.{Fields}
use Rattle.crossterm_parse.specs.declared.fields.Part.TheVariants as part
use Rattle.crossterm_parse.specs.declared.fields.Place.TheVariants as place
use Rattle.crossterm_parse.specs.declared.number.Number.{Number}
use Rattle.crossterm_parse.specs.declared.number.Number.TheVariants.{Empty, Value}
use Rattle.crossterm_parse.specs.declared.numbered.Parameters.{Parameters}
use Rattle.crossterm_parse.specs.declared.paste.Opening.{Opening}
use Rattle.crossterm_parse.specs.declared.paste.Opening.TheVariants as opening
use Rattle.crossterm_parse.specs.declared.whole.WholeNumber.{WholeNumber}
use Rattle.crossterm_parse.specs.declared.whole.WholeSequence.{WholeSequence}
use Rattle.crossterm_parse.specs.declared.readings.Readings.{Readings}
use Rattle.crossterm_parse.specs.declared.state.State.{State}
use Rattle.crossterm_parse.specs.declared.state.State.TheVariants.{Csi, Numbered}
use Rattle.crossterm_parse.specs.declared.utf8.Validity.TheVariants.{Sound}

-- a number after more bytes, and the last one of them
abbrev pub number_through : Number → List ℕ → Number
number_through n [] = n
number_through n (b ∷ bs) = number_through (number_after n b) bs

abbrev pub last_through : ℕ → List ℕ → ℕ
last_through l [] = l
last_through l (b ∷ bs) = last_through b bs

-- The fields with a number that is being read: the first one, a second one behind `;`, a kind behind its `:`, and a third one behind another `;`.
abbrev one_field : Number → Field
one_field n = record { first = n; second = Empty; part = part.First }

abbrev two_parts : Number → Number → Field
two_parts m n = record { first = m; second = n; part = part.Second }

abbrev pub in_first : Number → Fields
in_first n = fields_of n

abbrev pub in_second : ℕ → Number → Fields
in_second f n = record { first = one_field (Value f); second = one_field n; third = Empty; place = place.Second }

abbrev pub in_kind : ℕ → ℕ → Number → Fields
in_kind f m n = record { first = one_field (Value f); second = two_parts (Value m) n; third = Empty; place = place.Second }

abbrev pub in_third : ℕ → ℕ → Number → Fields
in_third f s n = record { first = one_field (Value f); second = one_field (Value s); third = n; place = place.Third }

-- what is kept of them, with the last byte
abbrev pub kept_of : Fields → ℕ → Parameters
kept_of fields last = record { fields = fields; last = last; validity = Sound }

-- The bytes begin with digits, which are this number, and the byte behind them.
pub record IsNumber (bytes : List ℕ) (n : WholeNumber) : Type 0 where
  pub within : n.count ≤ length bytes
  pub text : List ℕ
  pub is : take n.count bytes ≡ text ++ n.end ∷ []
  pub digits : AllByRecursion (λ b. is_digit b ≡ true) text
  pub value : number_through Empty text ≡ Value n.value
  pub last : last_through 0 text ≡ n.digit

-- The bytes begin with those that come behind `ESC [` before a final byte, of which this is read, and the byte behind them. They open no paste.
pub record AreNumbers (bytes : List ℕ) (readings : Readings) (end count : ℕ) : Type 0 where
  pub within : count ≤ length bytes
  pub text : List ℕ
  pub is : take count bytes ≡ text ++ end ∷ []
  pub parameters : Parameters
  pub met : Opening
  pub opens : Opens Csi (Numbered parameters met) text
  pub apart : met ≢ opening.Zeros
  pub reads : readings ≡ readings_at parameters

-- From this state on the bytes begin with those of a sequence that is whole with the last one, and means this.
pub record EndsFrom (old : State) (bytes : List ℕ) (raw : Bool) (it : WholeSequence) : Type 0 where
  pub within : it.count ≤ length bytes
  pub state : State
  pub text : List ℕ
  pub last : ℕ
  pub is : take it.count bytes ≡ text ++ last ∷ []
  pub opens : Opens old state text
  pub whole : (pause : Bool) → state_after state last raw pause ≡ Whole it.meaning
