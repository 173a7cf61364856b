-- Events as contracts see them: a paste is its text, wherever that lies in memory.
use Rattle.std.specs.Prelude.{ℕ, List, string_bytes}
use Rattle.crossterm_flags.specs.declared.enhancement.KeyboardEnhancementFlags.{KeyboardEnhancementFlags}
use Rattle.crossterm_types.specs.declared.event.key.KeyEvent.{KeyEvent}
use Rattle.crossterm_types.specs.declared.event.mouse.MouseEvent.{MouseEvent}
use Rattle.crossterm_types.specs.declared.event.Event.{Event}
use Rattle.crossterm_types.specs.declared.event.Event.TheVariants as event
use Rattle.crossterm_types.specs.declared.event.InternalEvent.{InternalEvent}
use Rattle.crossterm_types.specs.declared.event.InternalEvent.TheVariants as internal

-- An event as contracts see it. A paste is the bytes of its text in UTF-8.
pub data Seen : Type 0 where
  FocusGained : Seen
  FocusLost : Seen
  Key : KeyEvent → Seen
  Mouse : MouseEvent → Seen
  Paste : List ℕ → Seen
  Resize : ℕ → ℕ → Seen
  CursorPosition : ℕ → ℕ → Seen
  KeyboardFlags : KeyboardEnhancementFlags → Seen
  PrimaryDeviceAttributes : Seen

-- A user's event, as contracts see it.
abbrev pub seen_event : {A : Type 0} → Event A → Seen
seen_event event.FocusGained = FocusGained
seen_event event.FocusLost = FocusLost
seen_event (event.Key key) = Key key
seen_event (event.Mouse mouse) = Mouse mouse
seen_event (event.Paste text) = Paste (string_bytes text)
seen_event (event.Resize columns rows) = Resize columns rows

-- An event or a reply, as contracts see it.
abbrev pub seen : {A : Type 0} → InternalEvent A → Seen
seen (internal.Event e) = seen_event e
seen (internal.CursorPosition column row) = CursorPosition column row
seen (internal.KeyboardEnhancementFlags flags) = KeyboardFlags flags
seen internal.PrimaryDeviceAttributes = PrimaryDeviceAttributes
