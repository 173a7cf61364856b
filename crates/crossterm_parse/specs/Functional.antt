-- The keys of code points (kitty's keyboard protocol, "Functional key definitions").
use Rattle.std.specs.Prelude.{ℕ, ◌+◌, ◌-◌, ◌==◌, nat_lt, nat_le, if◌then◌else◌, Bool, ◌&&◌, ◌||◌, Option, Some, None}
use Rattle.std.specs.Option.{option_map}
use Rattle.std.specs.Str.{byte}
use Rattle.crossterm_types.specs.Keys.{modifiers_of}
use Rattle.crossterm_types.specs.declared.event.key.KeyCode.{KeyCode}
use Rattle.crossterm_types.specs.declared.event.key.KeyCode.TheVariants as key
use Rattle.crossterm_types.specs.declared.event.key.MediaKeyCode.{MediaKeyCode}
use Rattle.crossterm_types.specs.declared.event.key.MediaKeyCode.TheVariants as media
use Rattle.crossterm_types.specs.declared.event.key.ModifierKeyCode.{ModifierKeyCode}
use Rattle.crossterm_types.specs.declared.event.key.ModifierKeyCode.TheVariants as modifier
use Rattle.crossterm_parse.specs.Bytes.{DEL, ESC}
use Rattle.crossterm_parse.specs.declared.functional.FunctionalKey.{FunctionalKey}

-- A key without modifiers and without a state.
abbrev pub plain_key : KeyCode → FunctionalKey
plain_key code = record { code = code; modifiers = modifiers_of 0; state = record { 0 = 0 } }

-- A key of the keypad, without modifiers.
abbrev pub keypad_key : KeyCode → FunctionalKey
keypad_key code = record { code = code; modifiers = modifiers_of 0; state = record { 0 = 1 } }

-- A modifier key, which adds these modifiers.
abbrev pub modifier_key : ModifierKeyCode → ℕ → FunctionalKey
modifier_key code bits = record { code = key.Modifier code; modifiers = modifiers_of bits; state = record { 0 = 0 } }

-- The keys of 57358 to 57363: the locks, PrintScreen, Pause and Menu.
abbrev pub lock_code : ℕ → KeyCode
lock_code n =
    if n == 57358 then key.CapsLock else
    if n == 57359 then key.ScrollLock else
    if n == 57360 then key.NumLock else
    if n == 57361 then key.PrintScreen else
    if n == 57362 then key.Pause else
    key.Menu

-- The keys of the keypad: 57399 to 57427.
abbrev pub keypad_code : ℕ → KeyCode
keypad_code n =
    if nat_le n 57408 then key.Char (n - 57399 + byte "0") else
    if n == 57409 then key.Char (byte ".") else
    if n == 57410 then key.Char (byte "/") else
    if n == 57411 then key.Char (byte "*") else
    if n == 57412 then key.Char (byte "-") else
    if n == 57413 then key.Char (byte "+") else
    if n == 57414 then key.Enter else
    if n == 57415 then key.Char (byte "=") else
    if n == 57416 then key.Char (byte ",") else
    if n == 57417 then key.Left else
    if n == 57418 then key.Right else
    if n == 57419 then key.Up else
    if n == 57420 then key.Down else
    if n == 57421 then key.PageUp else
    if n == 57422 then key.PageDown else
    if n == 57423 then key.Home else
    if n == 57424 then key.End else
    if n == 57425 then key.Insert else
    if n == 57426 then key.Delete else
    key.KeypadBegin

-- The media keys: 57428 to 57440.
abbrev pub media_code : ℕ → MediaKeyCode
media_code n =
    if n == 57428 then media.Play else
    if n == 57429 then media.Pause else
    if n == 57430 then media.PlayPause else
    if n == 57431 then media.Reverse else
    if n == 57432 then media.Stop else
    if n == 57433 then media.FastForward else
    if n == 57434 then media.Rewind else
    if n == 57435 then media.TrackNext else
    if n == 57436 then media.TrackPrevious else
    if n == 57437 then media.Record else
    if n == 57438 then media.LowerVolume else
    if n == 57439 then media.RaiseVolume else
    media.MuteVolume

-- The modifier keys, 57441 to 57454. Each adds its modifier, but IsoLevel3Shift and IsoLevel5Shift add none.
abbrev pub modifier_code : ℕ → FunctionalKey
modifier_code n =
    if n == 57441 then modifier_key modifier.LeftShift 1 else
    if n == 57442 then modifier_key modifier.LeftControl 2 else
    if n == 57443 then modifier_key modifier.LeftAlt 4 else
    if n == 57444 then modifier_key modifier.LeftSuper 8 else
    if n == 57445 then modifier_key modifier.LeftHyper 16 else
    if n == 57446 then modifier_key modifier.LeftMeta 32 else
    if n == 57447 then modifier_key modifier.RightShift 1 else
    if n == 57448 then modifier_key modifier.RightControl 2 else
    if n == 57449 then modifier_key modifier.RightAlt 4 else
    if n == 57450 then modifier_key modifier.RightSuper 8 else
    if n == 57451 then modifier_key modifier.RightHyper 16 else
    if n == 57452 then modifier_key modifier.RightMeta 32 else
    if n == 57453 then modifier_key modifier.IsoLevel3Shift 0 else
    modifier_key modifier.IsoLevel5Shift 0

-- A code point if it is a character (a Unicode scalar value), else nothing.
abbrev pub char_of : ℕ → Option ℕ
char_of n = if nat_lt n 0xD800 || (nat_le 0xE000 n && nat_le n 0x10FFFF) then Some n else None

-- The key of a code point that is no functional key: Esc, Enter, Backspace, Tab, or the character.
abbrev pub text_code : Bool → Bool → ℕ → Option KeyCode
text_code raw shift n =
    if n == ESC then Some key.Esc else
    if n == byte "\r" then Some key.Enter else
    if n == DEL then Some key.Backspace else
    if n == byte "\n" then Some (if raw then key.Char (byte "\n") else key.Enter) else
    if n == byte "\t" then Some (if shift then key.BackTab else key.Tab) else
    option_map key.Char (char_of n)

-- The key of a code point: a functional key of kitty's in the private use area, or that of a character.
abbrev pub functional_key : Bool → Bool → ℕ → Option FunctionalKey
functional_key raw shift n =
    if nat_le 57358 n && nat_le n 57363 then Some (plain_key (lock_code n)) else
    if nat_le 57376 n && nat_le n 57398 then Some (plain_key (key.F (n - 57363))) else
    if nat_le 57399 n && nat_le n 57427 then Some (keypad_key (keypad_code n)) else
    if nat_le 57428 n && nat_le n 57440 then Some (plain_key (key.Media (media_code n))) else
    if nat_le 57441 n && nat_le n 57454 then Some (modifier_code n) else
    option_map plain_key (text_code raw shift n)
