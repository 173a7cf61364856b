-- The variants of enums by name, one table each: for JSON values, and for the declared order.
use Rattle.std.specs.Prelude.{ℕ, List, [], ◌∷◌, ◌++◌, codes, map}
use Rattle.crossterm_flags.specs.Values.{same}
use Rattle.crossterm_flags.specs.Variants.{Variants, place_in, variant}
use Rattle.crossterm_types.specs.contracts.event.key.KeyCodePartialEq.TheImpl as code_eq
use Rattle.crossterm_types.specs.contracts.event.key.KeyEventKindPartialEq.TheImpl as kind_eq
use Rattle.crossterm_types.specs.contracts.event.key.MediaKeyCodePartialEq.TheImpl as media_eq
use Rattle.crossterm_types.specs.contracts.event.key.ModifierKeyCodePartialEq.TheImpl as modifier_eq
use Rattle.crossterm_types.specs.contracts.event.mouse.MouseButtonPartialEq.TheImpl as button_eq
use Rattle.crossterm_types.specs.contracts.event.mouse.MouseEventKindPartialEq.TheImpl as mouse_eq
use Rattle.crossterm_types.specs.declared.event.key.KeyCode.{KeyCode}
use Rattle.crossterm_types.specs.declared.event.key.KeyCode.TheVariants as code
use Rattle.crossterm_types.specs.declared.event.key.KeyEventKind.{KeyEventKind}
use Rattle.crossterm_types.specs.declared.event.key.KeyEventKind.TheVariants as kind
use Rattle.crossterm_types.specs.declared.event.key.MediaKeyCode.{MediaKeyCode}
use Rattle.crossterm_types.specs.declared.event.key.MediaKeyCode.TheVariants as media
use Rattle.crossterm_types.specs.declared.event.key.ModifierKeyCode.{ModifierKeyCode}
use Rattle.crossterm_types.specs.declared.event.key.ModifierKeyCode.TheVariants as modifier
use Rattle.crossterm_types.specs.declared.event.mouse.MouseButton.{MouseButton}
use Rattle.crossterm_types.specs.declared.event.mouse.MouseButton.TheVariants as button
use Rattle.crossterm_types.specs.declared.event.mouse.MouseEventKind.{MouseEventKind}
use Rattle.crossterm_types.specs.declared.event.mouse.MouseEventKind.TheVariants as mouse

-- The kinds of key events.
abbrev pub kinds : Variants KeyEventKind
kinds = record { eq = kind_eq.ghosts.eq; rows = (codes "Press", kind.Press) ∷ (codes "Repeat", kind.Repeat) ∷ (codes "Release", kind.Release) ∷ [] }

-- The media keys.
abbrev pub media_keys : Variants MediaKeyCode
media_keys = record {
  eq = media_eq.ghosts.eq;
  rows =
      (codes "Play", media.Play) ∷ (codes "Pause", media.Pause) ∷ (codes "PlayPause", media.PlayPause) ∷ (codes "Reverse", media.Reverse) ∷
      (codes "Stop", media.Stop) ∷ (codes "FastForward", media.FastForward) ∷ (codes "Rewind", media.Rewind) ∷ (codes "TrackNext", media.TrackNext) ∷
      (codes "TrackPrevious", media.TrackPrevious) ∷ (codes "Record", media.Record) ∷ (codes "LowerVolume", media.LowerVolume) ∷ (codes "RaiseVolume", media.RaiseVolume) ∷
      (codes "MuteVolume", media.MuteVolume) ∷ [];
}

-- The modifier keys.
abbrev pub modifier_keys : Variants ModifierKeyCode
modifier_keys = record {
  eq = modifier_eq.ghosts.eq;
  rows =
      (codes "LeftShift", modifier.LeftShift) ∷ (codes "LeftControl", modifier.LeftControl) ∷ (codes "LeftAlt", modifier.LeftAlt) ∷ (codes "LeftSuper", modifier.LeftSuper) ∷
      (codes "LeftHyper", modifier.LeftHyper) ∷ (codes "LeftMeta", modifier.LeftMeta) ∷ (codes "RightShift", modifier.RightShift) ∷ (codes "RightControl", modifier.RightControl) ∷
      (codes "RightAlt", modifier.RightAlt) ∷ (codes "RightSuper", modifier.RightSuper) ∷ (codes "RightHyper", modifier.RightHyper) ∷ (codes "RightMeta", modifier.RightMeta) ∷
      (codes "IsoLevel3Shift", modifier.IsoLevel3Shift) ∷ (codes "IsoLevel5Shift", modifier.IsoLevel5Shift) ∷ [];
}

-- The buttons of the mouse.
abbrev pub buttons : Variants MouseButton
buttons = record { eq = button_eq.ghosts.eq; rows = (codes "Left", button.Left) ∷ (codes "Right", button.Right) ∷ (codes "Middle", button.Middle) ∷ [] }

-- ---- keys

-- The key codes without a value that are declared before `F` and `Char`.
abbrev early_keys : List (List ℕ × KeyCode)
early_keys =
    (codes "Backspace", code.Backspace) ∷ (codes "Enter", code.Enter) ∷ (codes "Left", code.Left) ∷ (codes "Right", code.Right) ∷
    (codes "Up", code.Up) ∷ (codes "Down", code.Down) ∷ (codes "Home", code.Home) ∷ (codes "End", code.End) ∷
    (codes "PageUp", code.PageUp) ∷ (codes "PageDown", code.PageDown) ∷ (codes "Tab", code.Tab) ∷ (codes "BackTab", code.BackTab) ∷
    (codes "Delete", code.Delete) ∷ (codes "Insert", code.Insert) ∷ []

-- The key codes without a value that are declared after `F` and `Char`.
abbrev late_keys : List (List ℕ × KeyCode)
late_keys =
    (codes "Null", code.Null) ∷ (codes "Esc", code.Esc) ∷ (codes "CapsLock", code.CapsLock) ∷ (codes "ScrollLock", code.ScrollLock) ∷
    (codes "NumLock", code.NumLock) ∷ (codes "PrintScreen", code.PrintScreen) ∷ (codes "Pause", code.Pause) ∷ (codes "Menu", code.Menu) ∷
    (codes "KeypadBegin", code.KeypadBegin) ∷ []

-- The key codes without a value.
abbrev pub plain_keys : Variants KeyCode
plain_keys = record { eq = code_eq.ghosts.eq; rows = early_keys ++ late_keys }

-- The name of a key code's variant.
abbrev pub code_variant : KeyCode → List ℕ
code_variant (code.F number) = codes "F"
code_variant (code.Char c) = codes "Char"
code_variant (code.Media key) = codes "Media"
code_variant (code.Modifier key) = codes "Modifier"
code_variant plain = variant plain_keys plain

-- The rank of a key code: the index of its variant among all.
abbrev pub code_rank : KeyCode → ℕ
code_rank key =
    let names = map (λ row. row.0) in
    place_in same (names early_keys ++ (codes "F" ∷ codes "Char" ∷ (names late_keys ++ (codes "Media" ∷ codes "Modifier" ∷ [])))) (code_variant key)

-- ---- the mouse

-- The kinds of mouse events without a button.
abbrev pub plain_mouse : Variants MouseEventKind
plain_mouse = record {
  eq = mouse_eq.ghosts.eq;
  rows =
      (codes "Moved", mouse.Moved) ∷ (codes "ScrollDown", mouse.ScrollDown) ∷ (codes "ScrollUp", mouse.ScrollUp) ∷ (codes "ScrollLeft", mouse.ScrollLeft) ∷ (codes "ScrollRight", mouse.ScrollRight) ∷ [];
}

-- The name of the variant of a kind of mouse event.
abbrev pub mouse_variant : MouseEventKind → List ℕ
mouse_variant (mouse.Down button) = codes "Down"
mouse_variant (mouse.Up button) = codes "Up"
mouse_variant (mouse.Drag button) = codes "Drag"
mouse_variant plain = variant plain_mouse plain

-- The rank of a kind of mouse event: the index of its variant among all.
abbrev pub mouse_rank : MouseEventKind → ℕ
mouse_rank event = place_in same (codes "Down" ∷ codes "Up" ∷ codes "Drag" ∷ map (λ row. row.0) plain_mouse.rows) (mouse_variant event)
