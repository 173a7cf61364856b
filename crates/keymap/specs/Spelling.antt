-- Chords as people write them: modifiers, each before a hyphen, and a key, as `ctrl-alt-delete`, `shift-f5`, `G`.
use Rattle.std.specs.Prelude.{◌≡◌, ◌+◌, ◌-◌, ◌*◌, ◌==◌, ◌&&◌, ℕ, if◌then◌else◌, nat_lt, bit_and, bit_or, codes, List, [], ◌∷◌, ◌++◌, length, Option, Some, None}
use Rattle.std.specs.Char.{encode_utf8, is_ascii_uppercase}
use Rattle.std.specs.Fmt.{decimal}
use Rattle.std.specs.List.{slice_split}
use Rattle.std.specs.Option.{option_map, option_or}
use Rattle.std.specs.declared.result.Result.{Result}
use Rattle.std.specs.declared.result.Result.TheVariants.{Ok, Err}
use Rattle.crossterm_flags.specs.Variants.{name_in, value_in}
use Rattle.crossterm_types.specs.Keys.{modifiers_of, pressed}
use Rattle.crossterm_types.specs.Normal.{normal}
use Rattle.crossterm_types.specs.Values.{FitsKey, only_char}
use Rattle.crossterm_types.specs.contracts.event.key.KeyCodePartialEq.TheImpl as code_eq
use Rattle.crossterm_types.specs.declared.event.key.KeyCode.{KeyCode}
use Rattle.crossterm_types.specs.declared.event.key.KeyCode.TheVariants as key
use Rattle.crossterm_types.specs.declared.event.key.KeyEvent.{KeyEvent}
use Rattle.crossterm_types.specs.declared.event.key.MediaKeyCode.TheVariants as media
use Rattle.crossterm_types.specs.declared.event.key.ModifierKeyCode.TheVariants as modifier
use Rattle.keymap.specs.Chords.{chord}
use Rattle.keymap.specs.declared.spelling.ChordFault.{ChordFault}
use Rattle.keymap.specs.declared.spelling.ChordFault.TheVariants.{Empty, UnknownModifier, UnknownKey}

-- ---- the words

-- Modifiers by their words, each with its bit. No terminal reports the last two.
abbrev pub modifier_words : List (List ℕ × ℕ)
modifier_words =
    (codes "shift", 1) ∷ (codes "ctrl", 2) ∷ (codes "alt", 4) ∷ (codes "super", 8) ∷ (codes "hyper", 16) ∷ (codes "meta", 32) ∷
    (codes "mod64", 64) ∷ (codes "mod128", 128) ∷ []

-- Keys by their words: the names of their variants in small letters, and `space`.
abbrev pub key_words : List (List ℕ × KeyCode)
key_words =
    (codes "backspace", key.Backspace) ∷ (codes "enter", key.Enter) ∷ (codes "left", key.Left) ∷ (codes "right", key.Right) ∷
    (codes "up", key.Up) ∷ (codes "down", key.Down) ∷ (codes "home", key.Home) ∷ (codes "end", key.End) ∷ (codes "pageup", key.PageUp) ∷
    (codes "pagedown", key.PageDown) ∷ (codes "tab", key.Tab) ∷ (codes "backtab", key.BackTab) ∷ (codes "delete", key.Delete) ∷
    (codes "insert", key.Insert) ∷ (codes "null", key.Null) ∷ (codes "esc", key.Esc) ∷ (codes "capslock", key.CapsLock) ∷
    (codes "scrolllock", key.ScrollLock) ∷ (codes "numlock", key.NumLock) ∷ (codes "printscreen", key.PrintScreen) ∷
    (codes "pause", key.Pause) ∷ (codes "menu", key.Menu) ∷ (codes "keypadbegin", key.KeypadBegin) ∷ (codes "space", key.Char 32) ∷
    (codes "mediaplay", key.Media media.Play) ∷ (codes "mediapause", key.Media media.Pause) ∷
    (codes "mediaplaypause", key.Media media.PlayPause) ∷ (codes "mediareverse", key.Media media.Reverse) ∷
    (codes "mediastop", key.Media media.Stop) ∷ (codes "mediafastforward", key.Media media.FastForward) ∷
    (codes "mediarewind", key.Media media.Rewind) ∷ (codes "mediatracknext", key.Media media.TrackNext) ∷
    (codes "mediatrackprevious", key.Media media.TrackPrevious) ∷ (codes "mediarecord", key.Media media.Record) ∷
    (codes "medialowervolume", key.Media media.LowerVolume) ∷ (codes "mediaraisevolume", key.Media media.RaiseVolume) ∷
    (codes "mediamutevolume", key.Media media.MuteVolume) ∷ (codes "leftshift", key.Modifier modifier.LeftShift) ∷
    (codes "leftcontrol", key.Modifier modifier.LeftControl) ∷ (codes "leftalt", key.Modifier modifier.LeftAlt) ∷
    (codes "leftsuper", key.Modifier modifier.LeftSuper) ∷ (codes "lefthyper", key.Modifier modifier.LeftHyper) ∷
    (codes "leftmeta", key.Modifier modifier.LeftMeta) ∷ (codes "rightshift", key.Modifier modifier.RightShift) ∷
    (codes "rightcontrol", key.Modifier modifier.RightControl) ∷ (codes "rightalt", key.Modifier modifier.RightAlt) ∷
    (codes "rightsuper", key.Modifier modifier.RightSuper) ∷ (codes "righthyper", key.Modifier modifier.RightHyper) ∷
    (codes "rightmeta", key.Modifier modifier.RightMeta) ∷ (codes "isolevel3shift", key.Modifier modifier.IsoLevel3Shift) ∷
    (codes "isolevel5shift", key.Modifier modifier.IsoLevel5Shift) ∷ []

-- ---- how a chord is spelled

-- The text of a key: `f5` for F(5), `space` for a blank, any other character itself, and any other key its word.
abbrev pub spelled_code : KeyCode → List ℕ
spelled_code (key.F n) = codes "f" ++ decimal n
spelled_code (key.Char c) = if c == 32 then codes "space" else encode_utf8 c
spelled_code named = name_in code_eq.ghosts.eq key_words named

-- The modifier bits that are spelled: all, but for a large ASCII letter all except SHIFT.
abbrev pub spelled_bits : KeyCode → ℕ → ℕ
spelled_bits (key.Char c) bits = if is_ascii_uppercase c then bit_and bits 254 else bits
spelled_bits _ bits = bits

-- The words of the modifiers that are set, each with a hyphen behind it, and then a text.
abbrev pub spelled_after : List (List ℕ × ℕ) → ℕ → List ℕ → List ℕ
spelled_after [] bits text = text
spelled_after (row ∷ rows) bits text = (if bit_and bits row.1 == 0 then [] else row.0 ++ 45 ∷ []) ++ spelled_after rows bits text

-- The text of a chord: its modifiers and its key, as `ctrl-c`.
abbrev pub chord_text : KeyEvent → List ℕ
chord_text k = spelled_after modifier_words (spelled_bits k.code k.modifiers.0) (spelled_code k.code)

-- ---- what a text reads as

-- The number of digits behind those of `n`, or `None` if a byte isn't a digit or the number is above 255.
abbrev pub byte_after : ℕ → List ℕ → Option ℕ
byte_after n [] = Some n
byte_after n (d ∷ ds) = if nat_lt 47 d && (nat_lt d 58 && nat_lt (n * 10 + (d - 48)) 256) then byte_after (n * 10 + (d - 48)) ds else None

-- The number of a function key, as 5 of `f5`, or `None` if the text isn't one.
abbrev pub function_number : List ℕ → Option ℕ
function_number [] = None
function_number (first ∷ digits) = if (first == 102) && nat_lt 0 (length digits) then byte_after 0 digits else None

-- The key of a text: a single character, a function key, or a word. `None` if it is none of them.
abbrev pub read_code : List ℕ → Option KeyCode
read_code text = option_or (option_map key.Char (only_char text)) (option_or (option_map key.F (function_number text)) (value_in key_words text))

-- The key with these modifiers, or `UnknownKey` if there is no key.
abbrev pub with_bits : ℕ → Option KeyCode → Result KeyEvent ChordFault
with_bits bits (Some code) = Ok (pressed code (modifiers_of bits))
with_bits bits None = Err UnknownKey

-- The last part of a chord, which is its key. If it is empty, the result is the fault `Empty`.
abbrev pub read_key : ℕ → List ℕ → Result KeyEvent ChordFault
read_key bits [] = Err Empty
read_key bits (b ∷ bs) = with_bits bits (read_code (b ∷ bs))

-- What the rest of a chord reads as after this modifier, or `UnknownModifier` if there is none.
abbrev pub read_modifier : Option ℕ → (ℕ → Result KeyEvent ChordFault) → Result KeyEvent ChordFault
read_modifier (Some bit) rest = rest bit
read_modifier None rest = Err UnknownModifier

-- The key `-`, if two empty parts end the chord. Otherwise an empty part is the fault `UnknownModifier`.
abbrev pub read_hyphen : ℕ → List ℕ → List (List ℕ) → Result KeyEvent ChordFault
read_hyphen bits [] [] = Ok (pressed (key.Char 45) (modifiers_of bits))
read_hyphen bits _ _ = Err UnknownModifier

-- The parts of a chord after modifiers of these bits: each part is a modifier, but the last one is the key.
abbrev pub read_parts : ℕ → List (List ℕ) → Result KeyEvent ChordFault
read_parts bits [] = Err Empty
read_parts bits (text ∷ []) = read_key bits text
read_parts bits ([] ∷ part ∷ hyphen_parts) = read_hyphen bits part hyphen_parts
read_parts bits ((b ∷ bs) ∷ part ∷ hyphen_parts) = read_modifier (value_in modifier_words (b ∷ bs)) (λ bit. read_parts (bit_or bits bit) (part ∷ hyphen_parts))

-- The parts of a text between its hyphens.
abbrev pub hyphen_parts : List ℕ → List (List ℕ)
hyphen_parts text = slice_split (λ b. b == 45) text

-- The chord that a text reads as, or its fault.
abbrev pub read_spelled : List ℕ → Result KeyEvent ChordFault
read_spelled text = read_parts 0 (hyphen_parts text)

-- ---- reading back

-- The text of a chord reads as a key with the same normal form.
abbrev pub ChordReadsBack : KeyEvent → Type 0
ChordReadsBack k = (found : KeyEvent) × (read_spelled (chord_text k) ≡ Ok found) × (normal found ≡ normal (chord k))

-- The text of each chord with a valid key reads as the same chord.
abbrev pub ChordsReadBack : Type 0
ChordsReadBack = (k : KeyEvent) → FitsKey k → ChordReadsBack k
