-- Events as numbers, and what they mean. The numbers are those of `bindings/c/gelvanh.h`, and any others are no
-- event.
use Rattle.std.specs.Prelude.{ℕ, ◌==◌, ◌-◌, ◌&&◌, nat_lt, if◌then◌else◌, Bool, List, [], ◌∷◌, length, take, slice_get, Option, Some, None}
use Rattle.std.specs.Option.{option_map}
use Rattle.crossterm_types.specs.Keys.{modifiers_of}
use Rattle.crossterm_types.specs.Seen.{Seen}
use Rattle.crossterm_types.specs.Seen as seen
use Rattle.crossterm_types.specs.declared.event.key.KeyCode.{KeyCode}
use Rattle.crossterm_types.specs.declared.event.key.KeyCode.TheVariants as code
use Rattle.crossterm_types.specs.declared.event.key.KeyEvent.{KeyEvent}
use Rattle.crossterm_types.specs.declared.event.key.KeyEventKind.{KeyEventKind}
use Rattle.crossterm_types.specs.declared.event.key.KeyEventKind.TheVariants as kind
use Rattle.crossterm_types.specs.declared.event.key.MediaKeyCode.{MediaKeyCode}
use Rattle.crossterm_types.specs.declared.event.key.MediaKeyCode.TheVariants as media
use Rattle.crossterm_types.specs.declared.event.key.ModifierKeyCode.{ModifierKeyCode}
use Rattle.crossterm_types.specs.declared.event.key.ModifierKeyCode.TheVariants as modifier
use Rattle.crossterm_types.specs.declared.event.mouse.MouseButton.{MouseButton}
use Rattle.crossterm_types.specs.declared.event.mouse.MouseButton.TheVariants as button
use Rattle.crossterm_types.specs.declared.event.mouse.MouseEvent.{MouseEvent}
use Rattle.crossterm_types.specs.declared.event.mouse.MouseEventKind.{MouseEventKind}
use Rattle.crossterm_types.specs.declared.event.mouse.MouseEventKind.TheVariants as mouse
use Rattle.crossterm_parse.specs.Meaning.{pasted}
use Rattle.numbers.specs.declared.event.GelvanhEvent.{GelvanhEvent}

-- The keys of a media keyboard, in declared order.
abbrev pub media_list : List MediaKeyCode
media_list =
    media.Play ∷ media.Pause ∷ media.PlayPause ∷ media.Reverse ∷ media.Stop ∷ media.FastForward ∷ media.Rewind ∷
    media.TrackNext ∷ media.TrackPrevious ∷ media.Record ∷ media.LowerVolume ∷ media.RaiseVolume ∷ media.MuteVolume ∷ []

-- The modifier keys, in declared order.
abbrev pub modifier_list : List ModifierKeyCode
modifier_list =
    modifier.LeftShift ∷ modifier.LeftControl ∷ modifier.LeftAlt ∷ modifier.LeftSuper ∷ modifier.LeftHyper ∷ modifier.LeftMeta ∷
    modifier.RightShift ∷ modifier.RightControl ∷ modifier.RightAlt ∷ modifier.RightSuper ∷ modifier.RightHyper ∷ modifier.RightMeta ∷
    modifier.IsoLevel3Shift ∷ modifier.IsoLevel5Shift ∷ []

-- The keys that have a number of their own, in declared order. At the places 14 and 15 are a function key and a
-- character. They have a value too, so `code_at` doesn't look here for them.
abbrev pub key_list : List KeyCode
key_list =
    code.Backspace ∷ code.Enter ∷ code.Left ∷ code.Right ∷ code.Up ∷ code.Down ∷ code.Home ∷ code.End ∷ code.PageUp ∷ code.PageDown ∷
    code.Tab ∷ code.BackTab ∷ code.Delete ∷ code.Insert ∷ code.F 0 ∷ code.Char 0 ∷ code.Null ∷ code.Esc ∷ code.CapsLock ∷
    code.ScrollLock ∷ code.NumLock ∷ code.PrintScreen ∷ code.Pause ∷ code.Menu ∷ code.KeypadBegin ∷ []

-- The function key of a number below 256. Other numbers give `None`.
abbrev pub function_at : ℕ → Option KeyCode
function_at value = if nat_lt value 256 then Some (code.F value) else None

-- The character of a number, or `None` if Unicode has none there: surrogates and numbers above 10FFFF.
abbrev pub char_at : ℕ → Option ℕ
char_at value =
    if nat_lt value 0xD800 then Some value else
    if nat_lt value 0xE000 then None else
    if nat_lt value 0x110000 then Some value else
    None

-- The key of two numbers, or `None`. If the key has no number, no character and no place, the second one has to be 0.
abbrev pub code_at : ℕ → ℕ → Option KeyCode
code_at n value =
    if n == 25 then option_map code.Media (slice_get media_list value) else
    if n == 26 then option_map code.Modifier (slice_get modifier_list value) else
    if n == 14 then function_at value else
    if n == 15 then option_map code.Char (char_at value) else
    if value == 0 then slice_get key_list n else
    None

-- Whether a key was pressed (0), repeated (1) or released (2). Other numbers give `None`.
abbrev pub press_at : ℕ → Option KeyEventKind
press_at n = slice_get (kind.Press ∷ kind.Repeat ∷ kind.Release ∷ []) n

-- A button of the mouse: left (0), right (1) or middle (2). Other numbers give `None`.
abbrev pub button_at : ℕ → Option MouseButton
button_at n = slice_get (button.Left ∷ button.Right ∷ button.Middle ∷ []) n

-- What the mouse did with a button: down (0), up (1) or drag (2). Other numbers, or no button, give `None`.
abbrev pub with_button : ℕ → Option MouseButton → Option MouseEventKind
with_button n (Some which) = slice_get (mouse.Down which ∷ mouse.Up which ∷ mouse.Drag which ∷ []) n
with_button n None = None

-- What the mouse can do without a button, in declared order.
abbrev pub without_button : List MouseEventKind
without_button = mouse.Moved ∷ mouse.ScrollDown ∷ mouse.ScrollUp ∷ mouse.ScrollLeft ∷ mouse.ScrollRight ∷ []

-- What the mouse did, by two numbers, or `None`. The second one is its button, or 0 if there is no button.
abbrev pub done_at : ℕ → ℕ → Option MouseEventKind
done_at n value = if nat_lt n 3 then with_button n (button_at value) else if value == 0 then slice_get without_button (n - 3) else None

-- The key event of these numbers, or `None` if its key or its kind is missing.
abbrev pub key_by : GelvanhEvent → Option KeyCode → Option KeyEventKind → Option KeyEvent
key_by e (Some which) (Some press) = Some (record { code = which; modifiers = modifiers_of e.modifiers; kind = press; state = record { 0 = e.state } })
key_by e (Some which) None = None
key_by e None press = None

-- The mouse event of these numbers, or `None` if it isn't known what the mouse did.
abbrev pub mouse_by : GelvanhEvent → Option MouseEventKind → Option MouseEvent
mouse_by e (Some done) = Some (record { kind = done; column = e.column; row = e.row; modifiers = modifiers_of e.modifiers })
mouse_by e None = None

-- Whether the numbers of a code are 0: the code, its value and the modifiers.
abbrev pub no_code : GelvanhEvent → Bool
no_code e = e.code == 0 && (e.value == 0 && e.modifiers == 0)

-- Whether the numbers of a key's press are 0: its kind and its state.
abbrev pub no_press : GelvanhEvent → Bool
no_press e = e.press == 0 && e.state == 0

-- Whether the numbers of a place are 0: its column and its row.
abbrev pub no_place : GelvanhEvent → Bool
no_place e = e.column == 0 && e.row == 0

-- Whether the flags are 0.
abbrev pub no_flags : GelvanhEvent → Bool
no_flags e = e.flags == 0

-- Whether all numbers but the event's kind are 0.
abbrev pub is_bare : GelvanhEvent → Bool
is_bare e = no_code e && (no_press e && (no_place e && no_flags e))

-- The thing if the condition holds, otherwise `None`.
abbrev pub only_if : {X : Type 0} → Bool → Option X → Option X
only_if is it = if is then it else None

-- The key event of these numbers, or `None` if they are no key's.
abbrev pub key_known : GelvanhEvent → Option KeyEvent
key_known e = only_if (no_place e && no_flags e) (key_by e (code_at e.code e.value) (press_at e.press))

-- The mouse event of these numbers, or `None` if they are no mouse's.
abbrev pub mouse_known : GelvanhEvent → Option MouseEvent
mouse_known e = only_if (no_press e && no_flags e) (mouse_by e (done_at e.code e.value))

-- The event of these numbers, or `None` if they are no event's. Of a paste the caller kept the bytes, and the last
-- six of them end it.
abbrev pub event_by : List ℕ → GelvanhEvent → Option Seen
event_by kept e =
    if e.kind == 1 then only_if (is_bare e) (Some seen.FocusGained) else
    if e.kind == 2 then only_if (is_bare e) (Some seen.FocusLost) else
    if e.kind == 3 then option_map seen.Key (key_known e) else
    if e.kind == 4 then option_map seen.Mouse (mouse_known e) else
    if e.kind == 5 then only_if (is_bare e) (Some (pasted (take (length kept - 6) kept))) else
    if e.kind == 6 then only_if (no_code e && (no_press e && no_flags e)) (Some (seen.CursorPosition e.column e.row)) else
    if e.kind == 7 then only_if (no_code e && (no_press e && no_place e)) (Some (seen.KeyboardFlags (record { 0 = e.flags }))) else
    if e.kind == 8 then only_if (is_bare e) (Some seen.PrimaryDeviceAttributes) else
    if e.kind == 9 then only_if (no_code e && (no_press e && no_flags e)) (Some (seen.Resize e.column e.row)) else
    None

-- The event, or a resize to nothing if there is none. No bytes mean a resize, so this is never given for bytes.
abbrev pub or_resize : Option Seen → Seen
or_resize (Some it) = it
or_resize None = seen.Resize 0 0

-- The event of these numbers, or a resize to nothing if they are no event's.
abbrev pub event_at : List ℕ → GelvanhEvent → Seen
event_at kept e = or_resize (event_by kept e)

-- The event of these numbers, or `None`. The end of a paste is none, since its text isn't among the numbers.
abbrev pub event_known : GelvanhEvent → Option Seen
event_known e = if e.kind == 5 then None else event_by [] e
