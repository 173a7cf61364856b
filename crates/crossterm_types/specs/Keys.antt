-- Keys.
use Rattle.std.specs.Prelude.{ℕ}
use Rattle.crossterm_flags.specs.declared.modifiers.KeyModifiers.{KeyModifiers}
use Rattle.crossterm_types.specs.declared.event.key.KeyCode.{KeyCode}
use Rattle.crossterm_types.specs.declared.event.key.KeyEvent.{KeyEvent}
use Rattle.crossterm_types.specs.declared.event.key.KeyEventKind.TheVariants.{Press}

-- The modifiers of some bits.
abbrev pub modifiers_of : ℕ → KeyModifiers
modifiers_of bits = record { 0 = bits }

-- A key that is pressed with these modifiers, with no state.
abbrev pub pressed : KeyCode → KeyModifiers → KeyEvent
pressed code modifiers = record { code = code; modifiers = modifiers; kind = Press; state = record { 0 = 0 } }

-- A key that is pressed alone.
abbrev pub pressed_alone : KeyCode → KeyEvent
pressed_alone code = pressed code (modifiers_of 0)
