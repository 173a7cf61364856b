-- The declared orders of events: by the rank of the variant, and for one variant by the values in it.
use Rattle.std.specs.Prelude.{ℕ, string_bytes}
use Rattle.std.specs.Cmp.Lexicographic.{slice_cmp}
use Rattle.std.specs.Ordering.{nat_cmp, on, ordering_then, then_cmp}
use Rattle.std.specs.declared.cmp.Ordering.{Ordering}
use Rattle.std.specs.declared.cmp.Ordering.TheVariants.{Equal}
use Rattle.crossterm_flags.specs.Variants.{rank_order}
use Rattle.crossterm_types.specs.Normal.{normal}
use Rattle.crossterm_types.specs.Variants.{buttons, code_rank, kinds, media_keys, modifier_keys, mouse_rank}
use Rattle.crossterm_types.specs.declared.event.Event.{Event}
use Rattle.crossterm_types.specs.declared.event.Event.TheVariants as event
use Rattle.crossterm_types.specs.declared.event.InternalEvent.{InternalEvent}
use Rattle.crossterm_types.specs.declared.event.InternalEvent.TheVariants as internal
use Rattle.crossterm_types.specs.declared.event.key.KeyCode.{KeyCode}
use Rattle.crossterm_types.specs.declared.event.key.KeyCode.TheVariants as code
use Rattle.crossterm_types.specs.declared.event.key.KeyEvent.{KeyEvent}
use Rattle.crossterm_types.specs.declared.event.mouse.MouseEvent.{MouseEvent}
use Rattle.crossterm_types.specs.declared.event.mouse.MouseEventKind.{MouseEventKind}
use Rattle.crossterm_types.specs.declared.event.mouse.MouseEventKind.TheVariants as mouse

-- The order of two key codes of one variant: by the number, the code point, or the rank of the key in it.
abbrev pub code_holds : KeyCode → KeyCode → Ordering
code_holds (code.F m) (code.F n) = nat_cmp m n
code_holds (code.Char c) (code.Char d) = nat_cmp c d
code_holds (code.Media a) (code.Media b) = rank_order media_keys a b
code_holds (code.Modifier a) (code.Modifier b) = rank_order modifier_keys a b
code_holds _ _ = Equal

-- The order of key codes: by variant, and then by the value in it.
abbrev pub code_order : KeyCode → KeyCode → Ordering
code_order = then_cmp (on code_rank nat_cmp) code_holds

-- The order of keys' fields: by the code, the bits of the modifiers, the kind and the bits of the state.
abbrev pub fields_order : KeyEvent → KeyEvent → Ordering
fields_order a b =
    ordering_then (code_order a.code b.code)
    (ordering_then (nat_cmp a.modifiers.0 b.modifiers.0) (ordering_then (rank_order kinds a.kind b.kind) (nat_cmp a.state.0 b.state.0)))

-- The order of keys: that of their normal forms' fields.
abbrev pub key_order : KeyEvent → KeyEvent → Ordering
key_order = on normal fields_order

-- The order of two kinds of mouse events of one variant: by the button.
abbrev pub mouse_holds : MouseEventKind → MouseEventKind → Ordering
mouse_holds (mouse.Down a) (mouse.Down b) = rank_order buttons a b
mouse_holds (mouse.Up a) (mouse.Up b) = rank_order buttons a b
mouse_holds (mouse.Drag a) (mouse.Drag b) = rank_order buttons a b
mouse_holds _ _ = Equal

-- The order of kinds of mouse events: by variant, and then by the button.
abbrev pub mouse_kind_order : MouseEventKind → MouseEventKind → Ordering
mouse_kind_order = then_cmp (on mouse_rank nat_cmp) mouse_holds

-- The order of mouse events: by the kind, the column, the row and the bits of the modifiers.
abbrev pub mouse_order : MouseEvent → MouseEvent → Ordering
mouse_order a b =
    ordering_then (mouse_kind_order a.kind b.kind)
    (ordering_then (nat_cmp a.column b.column) (ordering_then (nat_cmp a.row b.row) (nat_cmp a.modifiers.0 b.modifiers.0)))

-- The rank of an event: the index of its variant.
abbrev pub event_rank : {A : Type 0} → Event A → ℕ
event_rank event.FocusGained = 0
event_rank event.FocusLost = 1
event_rank (event.Key key) = 2
event_rank (event.Mouse event) = 3
event_rank (event.Paste text) = 4
event_rank (event.Resize columns rows) = 5

-- The order of two events of one variant: by the key's normal form, the mouse event, the paste's bytes, or columns and
-- rows.
abbrev pub event_holds : {A : Type 0} → Event A → Event A → Ordering
event_holds (event.Key a) (event.Key b) = key_order a b
event_holds (event.Mouse a) (event.Mouse b) = mouse_order a b
event_holds (event.Paste a) (event.Paste b) = slice_cmp nat_cmp (string_bytes a) (string_bytes b)
event_holds (event.Resize c r) (event.Resize d s) = ordering_then (nat_cmp c d) (nat_cmp r s)
event_holds _ _ = Equal

-- The order of events: by variant, and then by the value in it.
abbrev pub event_order : {A : Type 0} → Event A → Event A → Ordering
event_order = then_cmp (on event_rank nat_cmp) event_holds

-- The rank of an event or a reply: the index of its variant.
abbrev pub internal_rank : {A : Type 0} → InternalEvent A → ℕ
internal_rank (internal.Event event) = 0
internal_rank (internal.CursorPosition column row) = 1
internal_rank (internal.KeyboardEnhancementFlags flags) = 2
internal_rank internal.PrimaryDeviceAttributes = 3

-- The order of two replies of one variant: by the event, the column and the row, or the bits of the flags.
abbrev pub internal_holds : {A : Type 0} → InternalEvent A → InternalEvent A → Ordering
internal_holds (internal.Event a) (internal.Event b) = event_order a b
internal_holds (internal.CursorPosition c r) (internal.CursorPosition d s) = ordering_then (nat_cmp c d) (nat_cmp r s)
internal_holds (internal.KeyboardEnhancementFlags a) (internal.KeyboardEnhancementFlags b) = nat_cmp a.0 b.0
internal_holds _ _ = Equal

-- The order of events and replies: by variant, and then by the value in it.
abbrev pub internal_order : {A : Type 0} → InternalEvent A → InternalEvent A → Ordering
internal_order = then_cmp (on internal_rank nat_cmp) internal_holds
