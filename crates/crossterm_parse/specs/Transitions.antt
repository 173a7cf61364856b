-- The state of an open sequence after one more byte.
use Rattle.std.specs.Prelude.{◌≡◌, ℕ, ◌-◌, length, take, ◌++◌, ◌==◌, if◌then◌else◌, Bool, true, false, List, [], ◌∷◌, Some, option_to_list, nat_lt, ◌<◌, ◌≤◌, ◌&&◌, Option, None, ◌+◌, ◌*◌, nat_le}
use Rattle.std.specs.Str.{byte}
use Rattle.std.specs.Option.{option_map}
use Rattle.bstr.specs.Utf8.{decoded, second, continues}
use Rattle.crossterm_types.specs.Seen.{Seen}
use Rattle.crossterm_types.specs.declared.event.key.KeyCode.TheVariants.{Esc}
use Rattle.crossterm_parse.specs.Bytes.{ESC, is_digit}
use Rattle.crossterm_parse.specs.Grammar.{begins, paste_start}
use Rattle.crossterm_parse.specs.Meaning.{pressed_with, single, with_alt, after_ss3, after_csi, linux_key, flags_reply, decoded_character, meaning, seen_meaning, pasted}
use Rattle.crossterm_parse.specs.Recognizer.{is_final, is_mouse_end, is_lead, is_continuing, further_after, is_decided}
use Rattle.crossterm_parse.specs.Numbered.{numbered_by, sgr_by, x10_by}
use Rattle.crossterm_parse.specs.declared.character.Begun.{Begun}
use Rattle.crossterm_parse.specs.declared.character.Begun.TheVariants.{One, Two, Three}
use Rattle.crossterm_parse.specs.declared.character.Character.{Character}
use Rattle.crossterm_parse.specs.declared.meaning.Meaning.{Meaning}
use Rattle.crossterm_parse.specs.declared.meaning.Meaning.TheVariants.{PrimaryDeviceAttributes}
use Rattle.crossterm_parse.specs.declared.mouse.X10Report.{X10Report}
use Rattle.crossterm_parse.specs.declared.number.Number.{Number}
use Rattle.crossterm_parse.specs.declared.number.Number.TheVariants.{Empty, Bad, Plus, Value, Big}
use Rattle.crossterm_parse.specs.declared.numbered.Parameters.{Parameters}
use Rattle.crossterm_parse.specs.declared.paste.Met.{Met}
use Rattle.crossterm_parse.specs.declared.paste.Opening.{Opening}
use Rattle.crossterm_parse.specs.declared.readings.Readings.{Readings}
use Rattle.crossterm_parse.specs.declared.state.State.{State}
use Rattle.crossterm_parse.specs.declared.state.State.TheVariants.{Ground, Escape, Ss3, Csi, LinuxKey, X10, Sgr, Private, Reply, Numbered, Paste, Utf8}
use Rattle.crossterm_parse.specs.declared.utf8.Validity.{Validity}
use Rattle.crossterm_parse.specs.declared.utf8.Validity.TheVariants.{Sound, Partial, Broken}
use Rattle.crossterm_parse.specs.declared.fields.Field.{Field}
use Rattle.crossterm_parse.specs.declared.fields.Part.{Part}
use Rattle.crossterm_parse.specs.declared.fields.Fields.{Fields}
use Rattle.crossterm_parse.specs.declared.fields.Place.{Place}
use Rattle.crossterm_parse.specs.Tracking.{empty_field, whole_of, begun_bytes}
use Rattle.crossterm_parse.specs.States.{is_paste, StateRepresents}
use Rattle.crossterm_parse.specs.declared.mouse.X10Report.TheVariants as x10
use Rattle.crossterm_parse.specs.declared.paste.Met.TheVariants as met
use Rattle.crossterm_parse.specs.declared.paste.Opening.TheVariants as opening
use Rattle.crossterm_parse.specs.declared.fields.Part.TheVariants as part
use Rattle.crossterm_parse.specs.declared.fields.Place.TheVariants as place

-- The outcome of one more byte for an open sequence.
pub data ByteStep : Type 0 where
  -- It goes on, in this state.
  Open : State → ByteStep
  -- It is whole, and means this or nothing.
  Whole : Option Meaning → ByteStep
  -- The open paste is over.
  Closed : ByteStep

-- The outcome of one more byte for an open character.
pub data Grown : Type 0 where
  -- It goes on, with these bytes.
  More : Begun → Grown
  -- It is over, and means this or nothing.
  Over : Option Meaning → Grown

-- A value of at most 32 bits, or `Big` if it is greater.
abbrev pub longer_value : ℕ → Number
longer_value n = if nat_le n 4294967295 then Value n else Big

-- A number after one more byte of its text.
abbrev pub number_after : Number → ℕ → Number
number_after Empty b = if b == byte "+" then Plus else if is_digit b then Value (b - byte "0") else Bad
number_after Plus b = if is_digit b then Value (b - byte "0") else Bad
number_after (Value n) b = if is_digit b then longer_value (n * 10 + (b - byte "0")) else Bad
number_after Big b = if is_digit b then Big else Bad
number_after Bad b = Bad

-- The number if it has at most 32 bits, else nothing.
abbrev pub reading : Number → Option ℕ
reading Empty = None
reading Plus = None
reading (Value n) = Some n
reading Big = None
reading Bad = None

-- The fields of a text while the first part of its first field is being read.
abbrev pub fields_of : Number → Fields
fields_of first = record { first = record { first = first; second = Empty; part = part.First }; second = empty_field; third = Empty; place = place.First }

-- The fields of a text before its first byte.
abbrev pub empty_fields : Fields
empty_fields = fields_of Empty

-- A field after one more byte, by the part that is being read. A `:` begins the next part.
abbrev pub parts_at : Part → Field → ℕ → Field
parts_at part.First f b = if b == byte ":" then record f { part = part.Second } else record f { first = number_after f.first b }
parts_at part.Second f b = if b == byte ":" then record f { part = part.Later } else record f { second = number_after f.second b }
parts_at part.Later f b = f

-- A field after one more byte.
abbrev pub field_after : Field → ℕ → Field
field_after f b = parts_at f.part f b

-- The fields after one more byte, by the one that is being read. A `;` begins the next one.
abbrev pub fields_at : Place → Fields → ℕ → Fields
fields_at place.First f b = if b == byte ";" then record f { place = place.Second } else record f { first = field_after f.first b }
fields_at place.Second f b = if b == byte ";" then record f { place = place.Third } else record f { second = field_after f.second b }
fields_at place.Third f b = if b == byte ";" then record f { place = place.Later } else record f { third = number_after f.third b }
fields_at place.Later f b = f

-- The fields after one more byte.
abbrev pub fields_after : Fields → ℕ → Fields
fields_after f b = fields_at f.place f b

-- Whether a text is UTF-8, after one more byte of an open character.
abbrev pub begun_after : Begun → ℕ → Validity
begun_after (One a) b = if second a b then (if nat_lt a 0xE0 then Sound else Partial (Two a b)) else Broken
begun_after (Two a b) c = if continues c then (if nat_lt a 0xF0 then Sound else Partial (Three a b c)) else Broken
begun_after (Three a b c) d = if continues d then Sound else Broken

-- Whether a text is UTF-8, after one more byte.
abbrev pub utf8_after : Validity → ℕ → Validity
utf8_after Sound b = if nat_lt b 0x80 then Sound else if nat_le 0xC2 b && nat_le b 0xF4 then Partial (One b) else Broken
utf8_after (Partial begun) b = begun_after begun b
utf8_after Broken b = Broken

-- An open character is over or broken off. It means what was decoded, with ALT if ESC came before.
abbrev pub over : Bool → Option ℕ → Grown
over escaped c = Over (if escaped then with_alt (decoded_character c) else decoded_character c)

-- An open character after one more byte.
abbrev pub grown : Bool → Begun → ℕ → Grown
grown escaped (One a) b = if is_continuing b && nat_lt 0 (further_after a) then More (Two a b) else over escaped (decoded (a ∷ b ∷ [])).char
grown escaped (Two a b) c = if is_continuing c && nat_lt 1 (further_after a) then More (Three a b c) else over escaped (decoded (a ∷ b ∷ c ∷ [])).char
grown escaped (Three a b c) d = over escaped (decoded (a ∷ b ∷ c ∷ d ∷ [])).char

-- A byte of a UTF-8 character: while the character needs more bytes the sequence stays open. With its last byte the
-- sequence is whole, and means that character.
abbrev pub step_of : Bool → Grown → ByteStep
step_of escaped (More begun) = Open (Utf8 (record { escaped = escaped; begun = begun }))
step_of escaped (Over meaning) = Whole meaning

-- The part of a numbered sequence that is kept, after one more byte.
abbrev pub parameters_after : Parameters → ℕ → Parameters
parameters_after d b = record { fields = fields_after d.fields b; last = b; validity = utf8_after d.validity b }

-- The part of a numbered sequence that is kept before its first byte.
abbrev pub empty_parameters : Parameters
empty_parameters = record { fields = empty_fields; last = 0; validity = Sound }

-- True if the text so far is UTF-8.
abbrev pub is_sound : Validity → Bool
is_sound Sound = true
is_sound (Partial begun) = false
is_sound Broken = false

-- The reading of a numbered sequence, by what was kept of it.
abbrev pub readings_at : Parameters → Readings
readings_at d = record {
  first = reading (whole_of d.fields.first);
  second = reading (whole_of d.fields.second);
  third = reading d.fields.third;
  code = reading d.fields.first.first;
  alternate = reading d.fields.first.second;
  mask = reading d.fields.second.first;
  kind = reading d.fields.second.second;
  last = d.last;
  utf8 = is_sound d.validity;
}

-- One more byte after `ESC [ M`: the third one ends the report.
abbrev pub x10_after : X10Report → ℕ → ByteStep
x10_after x10.Empty b = Open (X10 (x10.Code b))
x10_after (x10.Code a) b = Open (X10 (x10.Column a b))
x10_after (x10.Column a b) c = Whole (x10_by a b c)

-- How much of `200~` a first digit is.
abbrev pub opens_with : ℕ → Opening
opens_with b = if b == byte "2" then opening.Two else opening.Not

-- How much of `200~` a text is, after one more byte.
abbrev pub opens_after : Opening → ℕ → Opening
opens_after opening.Two b = if b == byte "0" then opening.Zero else opening.Not
opens_after opening.Zero b = if b == byte "0" then opening.Zeros else opening.Not
opens_after opening.Zeros b = opening.Not
opens_after opening.Not b = opening.Not

-- A final byte ends a numbered sequence; a `~` behind `200` opens a paste.
abbrev pub number_ends : Opening → Parameters → Bool → ℕ → ByteStep
number_ends opening.Two d raw b = Whole (numbered_by raw b (readings_at d))
number_ends opening.Zero d raw b = Whole (numbered_by raw b (readings_at d))
number_ends opening.Zeros d raw b = if b == byte "~" then Open (Paste met.Nothing) else Whole (numbered_by raw b (readings_at d))
number_ends opening.Not d raw b = Whole (numbered_by raw b (readings_at d))

-- A byte that isn't the next one of a paste's end: the paste goes on, and an ESC begins its end anew.
abbrev pub met_anew : ℕ → ByteStep
met_anew b = Open (Paste (if b == ESC then met.Escape else met.Nothing))

-- A byte of an open paste, by how much of its end was met. The last byte of the end closes it.
abbrev pub met_after : Met → ℕ → ByteStep
met_after met.Nothing b = met_anew b
met_after met.Escape b = if b == byte "[" then Open (Paste met.Bracket) else met_anew b
met_after met.Bracket b = if b == byte "2" then Open (Paste met.Two) else met_anew b
met_after met.Two b = if b == byte "0" then Open (Paste met.Zero) else met_anew b
met_after met.Zero b = if b == byte "1" then Open (Paste met.One) else met_anew b
met_after met.One b = if b == byte "~" then Closed else met_anew b

-- The outcome of one more byte for an open sequence, by its state.
abbrev pub state_after : State → ℕ → Bool → Bool → ByteStep
state_after Ground b raw pause = if b == ESC then (if pause then Whole (Some (pressed_with Esc 0)) else Open Escape) else
    if is_lead b then Open (Utf8 (record { escaped = false; begun = One b })) else Whole (single raw b)
state_after Escape b raw pause =
    if b == byte "O" then Open Ss3 else
    if b == byte "[" then Open Csi else
    if b == ESC then Whole (Some (pressed_with Esc 0)) else
    if is_lead b then Open (Utf8 (record { escaped = true; begun = One b })) else
    Whole (with_alt (single raw b))
state_after Ss3 b raw pause = Whole (after_ss3 b)
state_after Csi b raw pause =
    if b == byte "[" then Open LinuxKey else
    if b == byte "M" then Open (X10 x10.Empty) else
    if b == byte "<" then Open (Sgr empty_parameters) else
    if b == byte "?" then Open Private else
    if is_digit b then Open (Numbered (parameters_after empty_parameters b) (opens_with b)) else
    Whole (after_csi b)
state_after LinuxKey b raw pause = Whole (linux_key b)
state_after (X10 c) b raw pause = x10_after c b
state_after (Sgr d) b raw pause = if is_mouse_end b then Whole (sgr_by b (readings_at d)) else Open (Sgr (parameters_after d b))
state_after Private b raw pause = if b == byte "c" then Whole (Some PrimaryDeviceAttributes) else Open (Reply (number_after Empty b))
state_after (Reply n) b raw pause =
    if b == byte "c" then Whole (Some PrimaryDeviceAttributes) else
    if b == byte "u" then Whole (flags_reply (reading n)) else
    Open (Reply (number_after n b))
state_after (Numbered d o) b raw pause = if is_final b then number_ends o d raw b else Open (Numbered (parameters_after d b) (opens_after o b))
state_after (Paste m) b raw pause = met_after m b
state_after (Utf8 c) b raw pause = step_of c.escaped (grown c.escaped c.begun b)

-- The meaning of a report after `ESC [ M` with this last byte; nothing if bytes are missing.
abbrev pub x10_meaning_with : X10Report → ℕ → Option Meaning
x10_meaning_with x10.Empty b = None
x10_meaning_with (x10.Code a) b = None
x10_meaning_with (x10.Column a b) c = x10_by a b c

-- The meaning of an open character if it is over with this byte.
abbrev pub open_character_meaning : Character → ℕ → Option Meaning
open_character_meaning c b = if c.escaped then with_alt (decoded_character (decoded (begun_bytes c.begun ++ b ∷ [])).char) else decoded_character (decoded (begun_bytes c.begun ++ b ∷ [])).char

-- The meaning of an open sequence if it is whole with this byte.
abbrev pub meaning_with : State → ℕ → Bool → Option Meaning
meaning_with Ground b raw = if b == ESC then Some (pressed_with Esc 0) else single raw b
meaning_with Escape b raw = if b == ESC then Some (pressed_with Esc 0) else with_alt (single raw b)
meaning_with Ss3 b raw = after_ss3 b
meaning_with Csi b raw = after_csi b
meaning_with LinuxKey b raw = linux_key b
meaning_with (X10 c) b raw = x10_meaning_with c b
meaning_with (Sgr d) b raw = sgr_by b (readings_at d)
meaning_with Private b raw = Some PrimaryDeviceAttributes
meaning_with (Reply n) b raw = if b == byte "u" then flags_reply (reading n) else Some PrimaryDeviceAttributes
meaning_with (Numbered d o) b raw = numbered_by raw b (readings_at d)
meaning_with (Paste m) b raw = None
meaning_with (Utf8 c) b raw = open_character_meaning c b

-- The state after a step: the ground state if the sequence is over.
abbrev pub state_left : ByteStep → State
state_left (Open state) = state
state_left (Whole event) = Ground
state_left Closed = Ground

-- The text of an open paste after a step, with what may be the front of its end.
abbrev pub text_left : ByteStep → State → List ℕ → ℕ → List ℕ
text_left (Open next) state text b = if is_paste next then (if is_paste state then text ++ b ∷ [] else []) else text
text_left (Whole event) state text b = text
text_left Closed state text b = []

-- The events that a step gives: at most one.
abbrev pub events_left : ByteStep → List ℕ → List Seen
events_left (Open state) text = []
events_left (Whole event) text = option_to_list (option_map seen_meaning event)
events_left Closed text = pasted (take (length text - 5) text) ∷ []

-- A step agrees with the grammar: it is whole exactly if these bytes are, and means what they mean.
abbrev pub IsRight : ByteStep → List ℕ → Bool → Bool → Type 0
IsRight (Open state) bytes raw pause = (is_decided bytes pause ≡ false) × StateRepresents state bytes
IsRight (Whole event) bytes raw pause = (is_decided bytes pause ≡ true) × (event ≡ meaning raw bytes) × (begins paste_start bytes ≡ false)
IsRight Closed bytes raw pause = (is_decided bytes pause ≡ true) × (begins paste_start bytes ≡ true)

-- Outside a paste the sequence goes on with each of these bytes, whatever the mode and the pauses.
abbrev pub Opens : State → State → List ℕ → Type 0
Opens old new [] = new ≡ old
Opens old new (b ∷ bs) = (mid : State) × ((raw pause : Bool) → state_after old b raw pause ≡ Open mid) × (is_paste mid ≡ false) × Opens mid new bs

-- A sequence of these bytes is open: ESC and at least one more, of which none ended it.
abbrev pub OpensWith : State → List ℕ → Type 0
OpensWith new bytes = (b : ℕ) × (bs : List ℕ) × (bytes ≡ ESC ∷ b ∷ bs) × Opens Escape new (b ∷ bs)

-- A byte was read, with one result whatever the mode and a pause.
pub record ReadsOneByte (old new : State) (byte : ℕ) (goes_on : Bool) : Type 0 where
  -- If it goes on, this is the new state.
  pub yes : goes_on ≡ true → (raw pause : Bool) → state_after old byte raw pause ≡ Open new
  -- If it doesn't go on, it is whole with this byte.
  pub no : goes_on ≡ false → (raw pause : Bool) → state_after old byte raw pause ≡ Whole (meaning_with old byte raw)
  -- If it doesn't go on, the state is as it was.
  pub same : goes_on ≡ false → new ≡ old

-- The bytes begin with this character, which has `size` bytes, two or more.
pub record IsCharacterOf (bytes : List ℕ) (c size : ℕ) : Type 0 where
  pub char : (decoded bytes).char ≡ Some c
  pub sized : (decoded bytes).size ≡ size
  pub long : 1 < size
  pub within : size ≤ length bytes
