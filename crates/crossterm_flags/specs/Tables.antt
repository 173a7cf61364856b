-- The constants of each type by name, in declared order, and all their bits.
use Rattle.std.specs.Prelude.{ℕ, List, [], ◌∷◌, codes}
use Rattle.bitflags.specs.Sets.{Row}
use Rattle.crossterm_flags.specs.Bits.{bits_of}

-- The modifiers of a key.
abbrev pub modifiers : List Row
modifiers = (codes "SHIFT", 1) ∷ (codes "CONTROL", 2) ∷ (codes "ALT", 4) ∷ (codes "SUPER", 8) ∷ (codes "HYPER", 16) ∷ (codes "META", 32) ∷ (codes "NONE", 0) ∷ []

-- All bits of modifiers: 63.
abbrev pub all_modifiers : ℕ
all_modifiers = bits_of modifiers

-- The states of a key.
abbrev pub states : List Row
states = (codes "KEYPAD", 1) ∷ (codes "CAPS_LOCK", 2) ∷ (codes "NUM_LOCK", 4) ∷ (codes "NONE", 0) ∷ []

-- All bits of states: 7.
abbrev pub all_states : ℕ
all_states = bits_of states

-- The enhancements of kitty's keyboard protocol.
abbrev pub enhancements : List Row
enhancements = (codes "DISAMBIGUATE_ESCAPE_CODES", 1) ∷ (codes "REPORT_EVENT_TYPES", 2) ∷ (codes "REPORT_ALTERNATE_KEYS", 4) ∷ (codes "REPORT_ALL_KEYS_AS_ESCAPE_CODES", 8) ∷ (codes "REPORT_ASSOCIATED_TEXT", 16) ∷ []

-- All bits of enhancements: 31.
abbrev pub all_enhancements : ℕ
all_enhancements = bits_of enhancements
