-- Events that a caller's table holds for a reader, and the classes of events that a call asks for.
use Rattle.std.specs.Prelude.{◌≡◌, ℕ, Bool, not, ◌==◌, if◌then◌else◌, List, [], ◌∷◌, ◌++◌, length, take, drop, map, Option, Some, None, position, remove, slice_index_or}
use Rattle.std.specs.Int.RustNames.{bit_and}
use Rattle.crossterm_types.specs.Admitting.{is_of}
use Rattle.crossterm_types.specs.Seen.{Seen}
use Rattle.crossterm_types.specs.declared.event.filter.AnyFilter.{AnyFilter}
use Rattle.crossterm_types.specs.declared.event.filter.AnyFilter.TheVariants.{Event, Cursor, Flags, Attributes}
use Rattle.crossterm_types.specs.declared.event.filter.Classes.{Classes}
use Rattle.crossterm_parse.specs.declared.marked.Marked.{Marked}
use Rattle.crossterm_parse.specs.declared.state.State.{State}
use Rattle.crossterm_read.specs.Answers.{Gave, SourceAnswer}
use Rattle.crossterm_read.specs.Store.{EventStore, next_number}
use Rattle.numbers.specs.Event.{event_at}
use Rattle.crossterm_c.specs.Feeding.{Feeds}
use Rattle.numbers.specs.declared.event.GelvanhEvent.{GelvanhEvent}
use Rattle.crossterm_c.specs.declared.held.GelvanhHeld.{GelvanhHeld}
use Rattle.crossterm_c.specs.declared.held.GelvanhReader.{GelvanhReader}

-- The events that a reader holds in a table, in the order of arrival: `held` of them, from the place `first` on.
abbrev pub held_in : GelvanhReader → List GelvanhHeld → List GelvanhHeld
held_in reader table = take reader.held (drop reader.first table)

-- A held event with its number. The caller keeps the bytes of each paste under the number of its event.
abbrev pub kept_at : (ℕ → List ℕ) → GelvanhHeld → Seen × ℕ
kept_at texts h = (event_at (texts h.arrival) h.event, h.arrival)

-- What a reader holds, as an event store.
abbrev pub store_at : (ℕ → List ℕ) → GelvanhReader → List GelvanhHeld → EventStore
store_at texts reader table = record { held = map (kept_at texts) (held_in reader table); arrivals = reader.arrivals }

-- The event that a call took, with its number, or `None` if it took none.
abbrev pub taken_at : (ℕ → List ℕ) → Bool → GelvanhHeld → Option (Seen × ℕ)
taken_at texts took h = if took then Some (kept_at texts h) else None

-- Whether some of the bits are set.
abbrev pub has_bit : ℕ → ℕ → Bool
has_bit bits bit = not (bit_and bits bit == 0)

-- The classes of some bits: 1 what a user brought about, 2 cursor positions, 4 keyboard flags, 8 device attributes.
abbrev pub classes_at : ℕ → Classes
classes_at bits = record { event = has_bit bits 1; cursor = has_bit bits 2; flags = has_bit bits 4; attributes = has_bit bits 8 }

-- The bits of what a filter admits. A terminal without the keyboard protocol answers the query for flags with its
-- attributes alone.
abbrev pub class_bits : AnyFilter → ℕ
class_bits Event = 1
class_bits Cursor = 2
class_bits Flags = 12
class_bits Attributes = 8

-- Whether a held event is of one of these classes. The bytes of a paste don't matter.
abbrev pub admits : ℕ → GelvanhHeld → Bool
admits bits h = is_of (classes_at bits) (event_at [] h.event)

-- The first held event of these classes was taken, and the others are left.
abbrev pub TakesAsHeld : ℕ → List GelvanhHeld → GelvanhHeld → List GelvanhHeld → Type 0
TakesAsHeld bits held taken left =
    (i : ℕ) × (position (admits bits) held ≡ Some i) × (slice_index_or held i taken ≡ taken) × (left ≡ remove held i)

-- The first held events of these classes were taken, one after another, and the others are left.
abbrev pub TakesEach : ℕ → List GelvanhHeld → List GelvanhHeld → List GelvanhHeld → Type 0
TakesEach bits held [] left = left ≡ held
TakesEach bits held (h ∷ taken) left = (mid : List GelvanhHeld) × TakesAsHeld bits held h mid × TakesEach bits mid taken left

-- Events as they are held, numbered from `n` on.
abbrev pub held_from : ℕ → List GelvanhEvent → List GelvanhHeld
held_from n [] = []
held_from n (e ∷ events) = record { event = e; arrival = n } ∷ held_from (next_number n) events

-- The number of the next event after these.
abbrev pub next_arrival : ℕ → List GelvanhEvent → ℕ
next_arrival n [] = n
next_arrival n (e ∷ events) = next_arrival (next_number n) events

-- Bytes were taken, and their events joined the held ones.
pub record FeedsHeld (old new : State) (before : GelvanhReader) (table : List GelvanhHeld) (after : GelvanhReader) (left : List GelvanhHeld) (count : ℕ) (bytes : List ℕ) (taken : List Marked) : Type 0 where
  pub given : List GelvanhEvent
  -- The bytes were taken, and gave these events.
  pub feeds : Feeds old new given bytes taken
  -- The events are behind those that were held before, in order, each with its number.
  pub held : held_in after left ≡ held_in before table ++ held_from before.arrivals given
  -- The next number is that after these events.
  pub arrivals : after.arrivals ≡ next_arrival before.arrivals given
  -- `count` is how many they are.
  pub size : count ≡ length given

-- The answers of a source that gives these events, numbered from `n` on. The bytes of a paste are kept under its
-- number.
abbrev pub answers_at : (ℕ → List ℕ) → ℕ → List GelvanhEvent → List SourceAnswer
answers_at texts n [] = []
answers_at texts n (e ∷ events) = Gave (event_at (texts n) e) ∷ answers_at texts (next_number n) events
