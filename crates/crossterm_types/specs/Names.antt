-- The names by which keys are shown.
use Rattle.std.specs.Prelude.{ℕ, List, [], ◌∷◌, ◌++◌, ◌==◌, if◌then◌else◌, codes}
use Rattle.std.specs.Char.{encode_utf8}
use Rattle.std.specs.Fmt.{decimal}
use Rattle.crossterm_flags.specs.Variants.{name_in}
use Rattle.crossterm_types.specs.Variants.{media_keys, modifier_keys, plain_keys}
use Rattle.crossterm_types.specs.declared.event.key.KeyCode.{KeyCode}
use Rattle.crossterm_types.specs.declared.event.key.KeyCode.TheVariants as key
use Rattle.crossterm_types.specs.declared.event.key.MediaKeyCode.{MediaKeyCode}
use Rattle.crossterm_types.specs.declared.event.key.MediaKeyCode.TheVariants as media
use Rattle.crossterm_types.specs.declared.event.key.ModifierKeyCode.{ModifierKeyCode}
use Rattle.crossterm_types.specs.declared.event.key.ModifierKeyCode.TheVariants as modifier

-- The names of media keys that differ from their variants.
abbrev media_names : List (List ℕ × MediaKeyCode)
media_names =
    (codes "Play/Pause", media.PlayPause) ∷ (codes "Fast Forward", media.FastForward) ∷ (codes "Next Track", media.TrackNext) ∷ (codes "Previous Track", media.TrackPrevious) ∷
    (codes "Lower Volume", media.LowerVolume) ∷ (codes "Raise Volume", media.RaiseVolume) ∷ (codes "Mute Volume", media.MuteVolume) ∷ []

-- The name of a media key.
abbrev pub media_name : MediaKeyCode → List ℕ
media_name = name_in media_keys.eq (media_names ++ media_keys.rows)

-- The names of modifier keys.
abbrev modifier_names : List (List ℕ × ModifierKeyCode)
modifier_names =
    (codes "Left Shift", modifier.LeftShift) ∷ (codes "Left Ctrl", modifier.LeftControl) ∷ (codes "Left Alt", modifier.LeftAlt) ∷ (codes "Left Super", modifier.LeftSuper) ∷ (codes "Left Hyper", modifier.LeftHyper) ∷
    (codes "Left Meta", modifier.LeftMeta) ∷ (codes "Right Shift", modifier.RightShift) ∷ (codes "Right Ctrl", modifier.RightControl) ∷ (codes "Right Alt", modifier.RightAlt) ∷ (codes "Right Super", modifier.RightSuper) ∷
    (codes "Right Hyper", modifier.RightHyper) ∷ (codes "Right Meta", modifier.RightMeta) ∷ (codes "Iso Level 3 Shift", modifier.IsoLevel3Shift) ∷ (codes "Iso Level 5 Shift", modifier.IsoLevel5Shift) ∷ []

-- The name of a modifier key.
abbrev pub modifier_name : ModifierKeyCode → List ℕ
modifier_name = name_in modifier_keys.eq modifier_names

-- A character itself; a space, which can't be seen, by its name.
abbrev pub char_name : ℕ → List ℕ
char_name c = if c == 32 then codes "Space" else encode_utf8 c

-- The names of keys without a value that differ from their variants.
abbrev key_names : List (List ℕ × KeyCode)
key_names =
    (codes "Page Up", key.PageUp) ∷ (codes "Page Down", key.PageDown) ∷ (codes "Back Tab", key.BackTab) ∷ (codes "Del", key.Delete) ∷ (codes "Caps Lock", key.CapsLock) ∷
    (codes "Scroll Lock", key.ScrollLock) ∷ (codes "Num Lock", key.NumLock) ∷ (codes "Print Screen", key.PrintScreen) ∷ (codes "Begin", key.KeypadBegin) ∷ []

-- The name of a key. A function key is `F` and its number.
abbrev pub key_name : KeyCode → List ℕ
key_name (key.F n) = codes "F" ++ decimal n
key_name (key.Char c) = char_name c
key_name (key.Media m) = media_name m
key_name (key.Modifier m) = modifier_name m
key_name plain = name_in plain_keys.eq (key_names ++ plain_keys.rows) plain
