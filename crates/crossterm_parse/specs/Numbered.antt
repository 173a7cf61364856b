-- The meaning of a numbered sequence (xterm, "PC-Style Function Keys"; kitty's keyboard protocol, "Functional key definitions").
use Rattle.std.specs.Prelude.{ℕ, ◌-◌, ◌==◌, nat_le, if◌then◌else◌, Bool, ◌&&◌, ◌||◌, List, [], ◌∷◌, Option, Some, None, option_and_then}
use Rattle.std.specs.Int.RustNames.{bit_and, bit_or}
use Rattle.std.specs.Option.{option_map}
use Rattle.std.specs.Str.{byte, is_utf8}
use Rattle.crossterm_types.specs.Keys.{modifiers_of}
use Rattle.crossterm_types.specs.declared.event.key.KeyCode.{KeyCode}
use Rattle.crossterm_types.specs.declared.event.key.KeyCode.TheVariants as key
use Rattle.crossterm_types.specs.declared.event.key.KeyEventKind.{KeyEventKind}
use Rattle.crossterm_parse.specs.Fields.{field_number, part_number}
use Rattle.crossterm_parse.specs.Letters.{letter_key}
use Rattle.crossterm_parse.specs.Mouse.{less, mouse_report, released}
use Rattle.crossterm_parse.specs.Number.{at_most, coordinate}
use Rattle.crossterm_parse.specs.declared.meaning.Meaning.{Meaning}
use Rattle.crossterm_parse.specs.declared.meaning.Meaning.TheVariants.{Key, Mouse, CursorPosition}
use Rattle.crossterm_parse.specs.declared.functional.FunctionalKey.{FunctionalKey}
use Rattle.crossterm_parse.specs.declared.modifier_field.ModifierField.{ModifierField}
use Rattle.crossterm_parse.specs.declared.readings.Readings.{Readings}
use Rattle.crossterm_parse.specs.Functional.{char_of, functional_key}
use Rattle.crossterm_parse.specs.ModifierField.{modifier_field, or_empty_modifier_field, or_fallback}

-- A key with the modifiers, the kind and the state of a modifier field.
abbrev pub key_with : KeyCode → ModifierField → Meaning
key_with code h = Key (record { code = code; modifiers = h.modifiers; kind = h.kind; state = h.state })

-- The last byte; 0 if there are no bytes.
abbrev pub last_of : List ℕ → ℕ
last_of [] = 0
last_of (b ∷ []) = b
last_of (b ∷ c ∷ bs) = last_of (c ∷ bs)

-- The reading of a numbered sequence before its final byte. Three fields and four parts as numbers, the last byte, and
-- whether it is UTF-8.
abbrev pub readings_of : List ℕ → Readings
readings_of text = record {
  first = field_number 0 text;
  second = field_number 1 text;
  third = field_number 2 text;
  code = part_number 0 0 text;
  alternate = part_number 0 1 text;
  mask = part_number 1 0 text;
  kind = part_number 1 1 text;
  last = last_of text;
  utf8 = is_utf8 text;
}

-- The modifier field of a numbered sequence: the mask and the kind in its second field, each at most 255.
abbrev pub modifier_field_of : Readings → Option ModifierField
modifier_field_of r = modifier_field (at_most 255 r.mask) (at_most 255 r.kind)

-- The key of a number before the final byte `~`; nothing for other numbers.
abbrev pub tilde_code : ℕ → Option KeyCode
tilde_code n =
    if n == 1 || n == 7 then Some key.Home else
    if n == 2 then Some key.Insert else
    if n == 3 then Some key.Delete else
    if n == 4 || n == 8 then Some key.End else
    if n == 5 then Some key.PageUp else
    if n == 6 then Some key.PageDown else
    if nat_le 11 n && nat_le n 15 then Some (key.F (n - 10)) else
    if nat_le 17 n && nat_le n 21 then Some (key.F (n - 11)) else
    if nat_le 23 n && nat_le n 26 then Some (key.F (n - 12)) else
    if nat_le 28 n && nat_le n 29 then Some (key.F (n - 15)) else
    if nat_le 31 n && nat_le n 34 then Some (key.F (n - 17)) else
    None

-- Final byte `~`: the key of the first field, with the modifier field.
abbrev pub tilde_meaning : Readings → Option Meaning
tilde_meaning r = option_map (λ code. key_with code (or_empty_modifier_field (modifier_field_of r))) (option_and_then tilde_code (at_most 255 r.first))

-- Final byte `R`: the cursor's position, row before column; both are counted from 0 in the event.
abbrev pub cursor_meaning : Readings → Option Meaning
cursor_meaning r = option_and_then (λ row. option_map (λ column. CursorPosition column row) (coordinate r.second)) (coordinate r.first)

-- Final byte `M`: a mouse report, whose code is 32 more (rxvt).
abbrev pub rxvt_meaning : Readings → Option Meaning
rxvt_meaning r = option_map Mouse (mouse_report (option_and_then (less 32) (at_most 255 r.first)) (coordinate r.second) (coordinate r.third))

-- After `ESC [ <`, with the final byte `M` or `m`: a mouse report, or nothing if it isn't UTF-8.
abbrev pub sgr_by : ℕ → Readings → Option Meaning
sgr_by f r = if r.utf8 then option_map (λ m. Mouse (released f m)) (mouse_report (at_most 255 r.first) (coordinate r.second) (coordinate r.third)) else None

-- After `ESC [ M`: a mouse report in three bytes, the code plus 32, the column and the row plus 33 each.
abbrev pub x10_by : ℕ → ℕ → ℕ → Option Meaning
x10_by a b c = option_map Mouse (mouse_report (less 32 a) (less 33 b) (less 33 c))

-- A final letter: its key with the modifier field, or with that of the last byte if there is none. Locks are left out.
abbrev pub numbered_letter : ℕ → Readings → Option Meaning
numbered_letter f r = option_and_then (λ code. option_map (λ h. key_with code (record h { state = record { 0 = 0 } })) (or_fallback (modifier_field_of r) r.last)) (letter_key f)

-- True if the bits have SHIFT.
abbrev pub bits_have_shift : ℕ → Bool
bits_have_shift bits = bit_and bits 1 == 1

-- A key with these modifiers; or its alternate character in its place, without SHIFT.
abbrev pub shifted : Option ℕ → KeyCode → ℕ → KeyEventKind → ℕ → Meaning
shifted None code bits kind state = Key (record { code = code; modifiers = modifiers_of bits; kind = kind; state = record { 0 = state } })
shifted (Some c) code bits kind state = Key (record { code = key.Char c; modifiers = modifiers_of (bit_and bits 254); kind = kind; state = record { 0 = state } })

-- A key with its modifier field. If SHIFT is on, its alternate character comes in its place.
abbrev pub functional_meaning : ModifierField → Option ℕ → FunctionalKey → Meaning
functional_meaning h alternate p = let bits = bit_or h.modifiers.0 p.modifiers.0 in
    shifted (if bits_have_shift bits then option_and_then char_of alternate else None) p.code bits h.kind (bit_or h.state.0 p.state.0)

-- Final byte `u`: the key of a code point (kitty).
abbrev pub code_meaning : Bool → Readings → Option Meaning
code_meaning raw r = let h = or_empty_modifier_field (modifier_field_of r) in
    option_and_then (λ n. option_map (functional_meaning h r.alternate) (functional_key raw (bits_have_shift h.modifiers.0) n)) r.code

-- The meaning of a numbered sequence, by its final byte.
abbrev pub final_meaning : Bool → ℕ → Readings → Option Meaning
final_meaning raw f r =
    if f == byte "~" then tilde_meaning r else
    if f == byte "u" then code_meaning raw r else
    if f == byte "R" then cursor_meaning r else
    if f == byte "M" then rxvt_meaning r else
    numbered_letter f r

-- The meaning of a numbered sequence; nothing if it isn't UTF-8.
abbrev pub numbered_by : Bool → ℕ → Readings → Option Meaning
numbered_by raw f r = if r.utf8 then final_meaning raw f r else None

-- All bytes but the last.
abbrev pub front_of : List ℕ → List ℕ
front_of [] = []
front_of (b ∷ []) = []
front_of (b ∷ c ∷ bs) = b ∷ front_of (c ∷ bs)

-- The meaning of a numbered sequence, from its first digit to its final byte.
abbrev pub numbered_meaning : Bool → List ℕ → Option Meaning
numbered_meaning raw text = numbered_by raw (last_of text) (readings_of (front_of text))

-- The meaning of the bytes after `ESC [ <`, to the final byte: a mouse report.
abbrev pub sgr_meaning : List ℕ → Option Meaning
sgr_meaning text = sgr_by (last_of text) (readings_of (front_of text))
