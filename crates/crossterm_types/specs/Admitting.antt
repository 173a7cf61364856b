-- Which events the filters admit.
use Rattle.std.specs.Prelude.{Bool, true, false}
use Rattle.crossterm_types.specs.Seen.{Seen}
use Rattle.crossterm_types.specs.Seen as seen
use Rattle.crossterm_types.specs.declared.event.filter.AnyFilter.{AnyFilter}
use Rattle.crossterm_types.specs.declared.event.filter.Classes.{Classes}
use Rattle.crossterm_types.specs.declared.event.filter.AnyFilter.TheVariants.{Event, Cursor, Flags, Attributes}

-- True of a user's events: of all but replies to queries.
abbrev pub is_event : Seen → Bool
is_event (seen.CursorPosition column row) = false
is_event (seen.KeyboardFlags flags) = false
is_event seen.PrimaryDeviceAttributes = false
is_event _ = true

-- True of a reply with the cursor's position.
abbrev pub is_cursor_position : Seen → Bool
is_cursor_position (seen.CursorPosition column row) = true
is_cursor_position _ = false

-- True of a reply with the terminal's attributes.
abbrev pub is_attributes : Seen → Bool
is_attributes seen.PrimaryDeviceAttributes = true
is_attributes _ = false

-- True of replies to a query for the keyboard flags: the flags, or the attributes alone if the terminal has no flags.
abbrev pub is_flags_reply : Seen → Bool
is_flags_reply (seen.KeyboardFlags flags) = true
is_flags_reply seen.PrimaryDeviceAttributes = true
is_flags_reply _ = false

-- Which events a filter admits.
abbrev pub admitted : AnyFilter → Seen → Bool
admitted Event = is_event
admitted Cursor = is_cursor_position
admitted Flags = is_flags_reply
admitted Attributes = is_attributes

-- True if an event is of one of these classes.
abbrev pub is_of : Classes → Seen → Bool
is_of classes (seen.CursorPosition column row) = classes.cursor
is_of classes (seen.KeyboardFlags flags) = classes.flags
is_of classes seen.PrimaryDeviceAttributes = classes.attributes
is_of classes _ = classes.event

-- The classes of events that a filter admits. A filter of flags also admits attributes: a terminal without the protocol
-- replies with those alone.
abbrev pub classes_of : AnyFilter → Classes
classes_of Event = record { event = true; cursor = false; flags = false; attributes = false }
classes_of Cursor = record { event = false; cursor = true; flags = false; attributes = false }
classes_of Flags = record { event = false; cursor = false; flags = true; attributes = true }
classes_of Attributes = record { event = false; cursor = false; flags = false; attributes = true }
