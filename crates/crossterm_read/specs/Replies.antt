-- The replies of a reader's calls, and what callers see of them.
use Rattle.std.specs.Prelude.{ℕ, Bool, Option, Some, None, Result, Ok, Err}
use Rattle.std.specs.Option.{option_map}
use Rattle.std.specs.IoError.{error_kind}
use Rattle.std.specs.declared.io.Error.{Error}
use Rattle.std.specs.declared.io.ErrorKind.{ErrorKind}
use Rattle.crossterm_flags.specs.declared.enhancement.KeyboardEnhancementFlags.{KeyboardEnhancementFlags}
use Rattle.crossterm_types.specs.Seen.{Seen, seen, CursorPosition, KeyboardFlags, PrimaryDeviceAttributes}
use Rattle.crossterm_types.specs.declared.event.Event.{Event}
use Rattle.crossterm_types.specs.declared.event.InternalEvent.{InternalEvent}
use Rattle.crossterm_types.specs.declared.event.InternalEvent.TheVariants as internal

-- A reply of a reader's call. Each event has its arrival number.
pub data Replied : Type 0 where
  -- Whether an admitted event is held.
  ToPoll : Bool → Replied
  -- The event that it took, if any.
  ToTake : Option (Seen × ℕ) → Replied
  -- The keyboard flags that it took, and the attributes after them, if these were taken.
  ToQuery : Seen × ℕ → Option (Seen × ℕ) → Replied
  -- An error of this kind.
  Fault : ErrorKind → Replied

-- A reply, as a caller sees it: no arrival numbers, and of a query only the flags.
pub data Said : Type 0 where
  Polled : Bool → Said
  Came : Option Seen → Said
  Faulted : ErrorKind → Said

-- The part of a reply that a caller sees.
abbrev pub shown : Replied → Said
shown (ToPoll b) = Polled b
shown (ToTake x) = Came (option_map (λ e. e.0) x)
shown (ToQuery x y) = Came (Some x.0)
shown (Fault kind) = Faulted kind

-- The result of a poll, with the kind of its error.
abbrev pub poll_reply : Result Bool Error → Result Bool ErrorKind
poll_reply (Ok b) = Ok b
poll_reply (Err e) = Err (error_kind e)

-- The reply of a call that polls.
abbrev pub replied : Result Bool ErrorKind → Replied
replied (Ok b) = ToPoll b
replied (Err kind) = Fault kind

-- A read with so many tries, as a caller sees it.
abbrev pub try_said : {A : Type 0} → Result (Option (InternalEvent A)) Error → Said
try_said (Ok x) = Came (option_map seen x)
try_said (Err e) = Faulted (error_kind e)

-- A read, as a caller sees it.
abbrev pub read_said : {A : Type 0} → Result (InternalEvent A) Error → Said
read_said (Ok x) = Came (Some (seen x))
read_said (Err e) = Faulted (error_kind e)

-- A query for the cursor's position, as a caller sees it.
abbrev pub position_said : Result (ℕ × ℕ) Error → Said
position_said (Ok x) = Came (Some (CursorPosition x.0 x.1))
position_said (Err e) = Faulted (error_kind e)

-- The reply that a query for the keyboard flags found: the flags, or the attributes alone.
abbrev pub flags_seen : Option KeyboardEnhancementFlags → Seen
flags_seen (Some flags) = KeyboardFlags flags
flags_seen None = PrimaryDeviceAttributes

-- A query for the keyboard flags, as a caller sees it.
abbrev pub keyboard_said : Result (Option KeyboardEnhancementFlags) Error → Said
keyboard_said (Ok flags) = Came (Some (flags_seen flags))
keyboard_said (Err e) = Faulted (error_kind e)

-- A user's event, as contracts see it.
abbrev pub event_seen : {A : Type 0} → Event A → Seen
event_seen event = seen (internal.Event event)

-- A read of a user's event, as a caller sees it.
abbrev pub event_said : {A : Type 0} → Result (Event A) Error → Said
event_said (Ok event) = Came (Some (event_seen event))
event_said (Err e) = Faulted (error_kind e)

-- A read that may find no event, as a caller sees it.
abbrev pub event_tried : {A : Type 0} → Result (Option (Event A)) Error → Said
event_tried (Ok x) = Came (option_map event_seen x)
event_tried (Err e) = Faulted (error_kind e)
