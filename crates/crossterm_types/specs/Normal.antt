-- The normal form of a key. Terminals report one key in several ways: `A`, `A` with Shift, and `a` with Shift.
use Rattle.std.specs.Prelude.{Bool, ◌==◌, ◌&&◌, if◌then◌else◌, bit_and, bit_or}
use Rattle.std.specs.Char.{is_ascii_uppercase, is_ascii_lowercase, to_ascii_uppercase}
use Rattle.crossterm_flags.specs.declared.modifiers.KeyModifiers.{KeyModifiers}
use Rattle.crossterm_types.specs.declared.event.key.KeyCode.{KeyCode}
use Rattle.crossterm_types.specs.declared.event.key.KeyCode.TheVariants.{Char}
use Rattle.crossterm_types.specs.declared.event.key.KeyEvent.{KeyEvent}

-- True if SHIFT is one of the modifiers.
abbrev pub has_shift : KeyModifiers → Bool
has_shift modifiers = bit_and modifiers.0 1 == 1

-- The modifiers and SHIFT.
abbrev pub with_shift : KeyModifiers → KeyModifiers
with_shift modifiers = record { 0 = bit_or modifiers.0 1 }

-- The normal form of a key with this code.
abbrev pub normal_at : KeyCode → KeyEvent → KeyEvent
normal_at (Char c) key =
    if is_ascii_uppercase c then record key { modifiers = with_shift key.modifiers }
    else (if has_shift key.modifiers && is_ascii_lowercase c then record key { code = Char (to_ascii_uppercase c) } else key)
normal_at _ key = key

-- The normal form of a key. An ASCII upper case character has SHIFT; with SHIFT an ASCII lower case one is upper case.
abbrev pub normal : KeyEvent → KeyEvent
normal key = normal_at key.code key
