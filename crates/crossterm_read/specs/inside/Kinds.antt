-- The kinds of events that a reader holds, each in a queue of its own.
use Rattle.std.specs.Prelude.{ℕ, Bool, true, false}
use Rattle.crossterm_types.specs.declared.event.InternalEvent.{InternalEvent}
use Rattle.crossterm_types.specs.declared.event.InternalEvent.TheVariants as internal
use Rattle.crossterm_types.specs.declared.event.filter.Classes.{Classes}
use Rattle.crossterm_read.specs.declared.read.held.kind.Kind.{Kind}
use Rattle.crossterm_read.specs.declared.read.held.kind.Kind.TheVariants.{Event, Cursor, Flags, Attributes}
use Rattle.crossterm_read.specs.declared.read.held.kind.Places.{Places}

-- The kind of an event.
abbrev pub kind_of : {A : Type 0} → InternalEvent A → Kind
kind_of (internal.Event e) = Event
kind_of (internal.CursorPosition column row) = Cursor
kind_of (internal.KeyboardEnhancementFlags flags) = Flags
kind_of internal.PrimaryDeviceAttributes = Attributes

-- Whether two kinds are the same.
abbrev pub same_kind : Kind → Kind → Bool
same_kind Event Event = true
same_kind Cursor Cursor = true
same_kind Flags Flags = true
same_kind Attributes Attributes = true
same_kind _ _ = false

-- Whether a kind is one of these classes.
abbrev pub has_class : Classes → Kind → Bool
has_class classes Event = classes.event
has_class classes Cursor = classes.cursor
has_class classes Flags = classes.flags
has_class classes Attributes = classes.attributes

-- The place in the queue of this kind.
abbrev pub queue_place : Places → Kind → ℕ
queue_place at Event = at.event
queue_place at Cursor = at.cursor
queue_place at Flags = at.flags
queue_place at Attributes = at.attributes
