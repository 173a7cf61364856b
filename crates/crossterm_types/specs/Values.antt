-- Events as JSON, and what JSON reads as an event. The members of an object are in the order of their names.
use Rattle.std.specs.Prelude.{◌≡◌, ℕ, ◌+◌, ◌-◌, ◌*◌, ◌<◌, ◌&&◌, ◌⊎◌, ⊤, List, [], ◌∷◌, Option, Some, None, MatchResult, codes, string_bytes, if◌then◌else◌}
use Rattle.std.specs.Char.{IsScalar, encode_utf8}
use Rattle.std.specs.Option.{option_and_then, option_map, option_or}
use Rattle.std.specs.declared.result.Result.{Result}
use Rattle.std.proofs.Math.Utf8.{scalar}
use Rattle.serde_json.specs.Data.{Data, array, item, member, no_items, no_members, object, string}
use Rattle.serde_json.specs.Find.{as_str}
use Rattle.crossterm_flags.specs.Values.{number_value, one_member, reads_below, reads_four, reads_member, reads_two, same}
use Rattle.crossterm_flags.specs.declared.value.ValueFault.{ValueFault}
use Rattle.crossterm_flags.specs.declared.value.ValueFault.TheVariants.{Memory, Shape}
use Rattle.crossterm_types.specs.Seen.{Seen, seen_event}
use Rattle.crossterm_types.specs.Seen as seen
use Rattle.crossterm_flags.specs.Variants.{reads_variant, variant}
use Rattle.crossterm_types.specs.Variants.{buttons, kinds, media_keys, modifier_keys, plain_keys, plain_mouse}
use Rattle.crossterm_types.specs.declared.event.Event.{Event}
use Rattle.crossterm_types.specs.declared.event.Event.TheVariants as event
use Rattle.crossterm_types.specs.declared.event.key.KeyCode.{KeyCode}
use Rattle.crossterm_types.specs.declared.event.key.KeyCode.TheVariants as code
use Rattle.crossterm_types.specs.declared.event.key.KeyEvent.{KeyEvent}
use Rattle.crossterm_types.specs.declared.event.mouse.MouseEvent.{MouseEvent}
use Rattle.crossterm_types.specs.declared.event.mouse.MouseEventKind.{MouseEventKind}
use Rattle.crossterm_types.specs.declared.event.mouse.MouseEventKind.TheVariants as mouse

-- ---- keys

-- A key code: its variant, or an object of its variant and the value in it.
abbrev pub code_value : KeyCode → Data
code_value (code.F n) = one_member (codes "F") (number_value n)
code_value (code.Char c) = one_member (codes "Char") (string (encode_utf8 c))
code_value (code.Media key) = one_member (codes "Media") (string (variant media_keys key))
code_value (code.Modifier key) = one_member (codes "Modifier") (string (variant modifier_keys key))
code_value plain = string (variant plain_keys plain)

-- The code point that one to four bytes spell in UTF-8.
abbrev pub point : List ℕ → ℕ
point (a ∷ []) = a
point (a ∷ b ∷ []) = (a - 192) * 64 + (b - 128)
point (a ∷ b ∷ c ∷ []) = ((a - 224) * 64 + (b - 128)) * 64 + (c - 128)
point (a ∷ b ∷ c ∷ d ∷ []) = (((a - 240) * 64 + (b - 128)) * 64 + (c - 128)) * 64 + (d - 128)
point _ = 0

-- The character of a text that has exactly one; else nothing.
abbrev pub only_char : List ℕ → Option ℕ
only_char text = if scalar (point text) && same (encode_utf8 (point text)) text then Some (point text) else None

-- A key code with a value, by the name of its variant; else nothing.
abbrev pub holding_code : List ℕ × Data → Option KeyCode
holding_code held =
    if same held.0 (codes "F") then option_map code.F (reads_below 256 held.1) else (
    if same held.0 (codes "Char") then option_map code.Char (option_and_then only_char (as_str held.1)) else (
    if same held.0 (codes "Media") then option_map code.Media (reads_variant media_keys held.1) else (
    if same held.0 (codes "Modifier") then option_map code.Modifier (reads_variant modifier_keys held.1) else
    None)))

-- A key code: by the name of its variant, or as an object of one member.
abbrev pub reads_code : Data → Option KeyCode
reads_code d = option_or (reads_variant plain_keys d) (option_and_then holding_code (reads_member d))

-- A key event: an object of its four fields.
abbrev pub key_value : KeyEvent → Data
key_value key = object (member (codes "code") (code_value key.code)
    (member (codes "kind") (string (variant kinds key.kind))
    (member (codes "modifiers") (number_value key.modifiers.0)
    (member (codes "state") (number_value key.state.0) no_members))))

-- A key event, if all of its four fields can be read.
abbrev pub key_of : Data × Data × Data × Data → Option KeyEvent
key_of fields =
    option_and_then (λ code. option_and_then (λ kind. option_and_then (λ modifiers. option_map (λ state.
    record { code = code; modifiers = record { 0 = modifiers }; kind = kind; state = record { 0 = state } })
    (reads_below 256 fields.3)) (reads_below 256 fields.2)) (reads_variant kinds fields.1)) (reads_code fields.0)

-- A key event: an object of exactly these four members.
abbrev pub reads_key : Data → Option KeyEvent
reads_key d = option_and_then key_of (reads_four (codes "code") (codes "kind") (codes "modifiers") (codes "state") d)

-- ---- the mouse

-- A kind of mouse event: its variant, or an object of its variant and the button.
abbrev pub mouse_kind_value : MouseEventKind → Data
mouse_kind_value (mouse.Down button) = one_member (codes "Down") (string (variant buttons button))
mouse_kind_value (mouse.Up button) = one_member (codes "Up") (string (variant buttons button))
mouse_kind_value (mouse.Drag button) = one_member (codes "Drag") (string (variant buttons button))
mouse_kind_value plain = string (variant plain_mouse plain)

-- A kind of mouse event with a button, by the name of its variant; else nothing.
abbrev pub holding_mouse : List ℕ × Data → Option MouseEventKind
holding_mouse held =
    if same held.0 (codes "Down") then option_map mouse.Down (reads_variant buttons held.1) else (
    if same held.0 (codes "Up") then option_map mouse.Up (reads_variant buttons held.1) else (
    if same held.0 (codes "Drag") then option_map mouse.Drag (reads_variant buttons held.1) else
    None))

-- A kind of mouse event: by the name of its variant, or as an object of one member.
abbrev pub reads_mouse_kind : Data → Option MouseEventKind
reads_mouse_kind d = option_or (reads_variant plain_mouse d) (option_and_then holding_mouse (reads_member d))

-- A mouse event: an object of its four fields.
abbrev pub mouse_value : MouseEvent → Data
mouse_value m = object (member (codes "column") (number_value m.column)
    (member (codes "kind") (mouse_kind_value m.kind)
    (member (codes "modifiers") (number_value m.modifiers.0)
    (member (codes "row") (number_value m.row) no_members))))

-- A mouse event, if all of its four fields can be read.
abbrev pub mouse_of : Data × Data × Data × Data → Option MouseEvent
mouse_of fields =
    option_and_then (λ column. option_and_then (λ kind. option_and_then (λ modifiers. option_map (λ row.
    record { kind = kind; column = column; row = row; modifiers = record { 0 = modifiers } })
    (reads_below 65536 fields.3)) (reads_below 256 fields.2)) (reads_mouse_kind fields.1)) (reads_below 65536 fields.0)

-- A mouse event: an object of exactly these four members.
abbrev pub reads_mouse : Data → Option MouseEvent
reads_mouse d = option_and_then mouse_of (reads_four (codes "column") (codes "kind") (codes "modifiers") (codes "row") d)

-- ---- events

-- An event: its variant, or an object of its variant and the value in it.
abbrev pub event_value : {A : Type 0} → Event A → Data
event_value event.FocusGained = string (codes "FocusGained")
event_value event.FocusLost = string (codes "FocusLost")
event_value (event.Key key) = one_member (codes "Key") (key_value key)
event_value (event.Mouse m) = one_member (codes "Mouse") (mouse_value m)
event_value (event.Paste text) = one_member (codes "Paste") (string (string_bytes text))
event_value (event.Resize columns rows) = one_member (codes "Resize") (array (item (number_value columns) (item (number_value rows) no_items)))

-- An event without a value, by the name of its variant; else nothing.
abbrev pub plain_event : List ℕ → Option Seen
plain_event text =
    if same text (codes "FocusGained") then Some seen.FocusGained else (
    if same text (codes "FocusLost") then Some seen.FocusLost else None)

-- A resize, if columns and rows can be read.
abbrev pub size_of : Data × Data → Option Seen
size_of both = option_and_then (λ columns. option_map (seen.Resize columns) (reads_below 65536 both.1)) (reads_below 65536 both.0)

-- An event with a value, by the name of its variant; else nothing.
abbrev pub holding_event : List ℕ × Data → Option Seen
holding_event held =
    if same held.0 (codes "Key") then option_map seen.Key (reads_key held.1) else (
    if same held.0 (codes "Mouse") then option_map seen.Mouse (reads_mouse held.1) else (
    if same held.0 (codes "Paste") then option_map seen.Paste (as_str held.1) else (
    if same held.0 (codes "Resize") then option_and_then size_of (reads_two held.1) else
    None)))

-- An event: by the name of its variant, or as an object of one member.
abbrev pub reads_event : Data → Option Seen
reads_event d = option_or (option_and_then plain_event (as_str d)) (option_and_then holding_event (reads_member d))

-- The result is what was read, `Shape` if and only if nothing was, or `Memory` if memory for a paste's text was
-- refused.
abbrev pub ReadsEvent : {A : Type 0} → Option Seen → Result (Event A) ValueFault → Type 0
ReadsEvent reading result = MatchResult result (λ e. reading ≡ Some (seen_event e))
    (λ fault. ((fault ≡ Shape) × (reading ≡ None)) ⊎ ((fault ≡ Memory) × ((text : List ℕ) × (reading ≡ Some (seen.Paste text)))))

-- ---- which values there are

-- The value in a key code is in the range of its type.
abbrev pub FitsCode : KeyCode → Type 0
FitsCode (code.F n) = n < 256
FitsCode (code.Char c) = IsScalar c
FitsCode _ = ⊤

-- The numbers of a key event are in the ranges of their types.
abbrev pub FitsKey : KeyEvent → Type 0
FitsKey key = FitsCode key.code × (key.modifiers.0 < 256) × (key.state.0 < 256)

-- The numbers of a mouse event are in the ranges of their types.
abbrev pub FitsMouse : MouseEvent → Type 0
FitsMouse m = (m.column < 65536) × (m.row < 65536) × (m.modifiers.0 < 256)

-- The numbers of an event are in the ranges of their types.
abbrev pub FitsEvent : {A : Type 0} → Event A → Type 0
FitsEvent (event.Key key) = FitsKey key
FitsEvent (event.Mouse m) = FitsMouse m
FitsEvent (event.Resize columns rows) = (columns < 65536) × (rows < 65536)
FitsEvent _ = ⊤
