-- The replies of private calls.
use Rattle.std.specs.Prelude.{ℕ, false, List, Option, Some, None, Result, Ok, Err}
use Rattle.std.specs.Option.{option_map}
use Rattle.std.specs.IoError.{error_kind}
use Rattle.std.specs.declared.io.Error.{Error}
use Rattle.crossterm_flags.specs.declared.enhancement.KeyboardEnhancementFlags.{KeyboardEnhancementFlags}
use Rattle.crossterm_types.specs.Seen.{Seen, seen}
use Rattle.crossterm_types.specs.declared.event.InternalEvent.{InternalEvent}
use Rattle.crossterm_read.specs.declared.read.held.Taken.{Taken}
use Rattle.std.specs.declared.time.Duration.{Duration}
use Rattle.crossterm_types.specs.declared.event.filter.AnyFilter.{AnyFilter}
use Rattle.crossterm_read.specs.Calls.{Request, Poll, Read}
use Rattle.crossterm_read.specs.Entries.{InTime, IsCall}
use Rattle.crossterm_read.specs.History.{Entry}
use Rattle.crossterm_read.specs.Replies.{Replied, ToPoll, ToTake, Fault, Said, Came, Faulted, flags_seen}
use Rattle.crossterm_read.specs.Steps.{Patience}
use Rattle.crossterm_read.specs.Store.{ReaderState}
use Rattle.crossterm_read.specs.Waiting.{AsksWithin}

-- The event that was taken, as a clause sees it.
abbrev pub kept : {A : Type 0} → Taken (InternalEvent A) → Seen × ℕ
kept taken = (seen taken.event, taken.number)

-- The reply of a read that may take nothing.
abbrev pub try_reply : {A : Type 0} → Result (Option (Taken (InternalEvent A))) Error → Replied
try_reply (Ok x) = ToTake (option_map kept x)
try_reply (Err e) = Fault (error_kind e)

abbrev pub read_reply : {A : Type 0} → Result (Taken (InternalEvent A)) Error → Replied
read_reply (Ok x) = ToTake (Some (kept x))
read_reply (Err e) = Fault (error_kind e)

-- The number of the event taken last, after a call that returns its number if it takes one.
abbrev pub last_said : {E : Type 0} → Option ℕ → Result (Taken E) Error → Option ℕ
last_said n (Ok taken) = Some taken.number
last_said n (Err e) = n

abbrev pub last_tried : {E : Type 0} → Option ℕ → Result (Option (Taken E)) Error → Option ℕ
last_tried n (Ok (Some taken)) = Some taken.number
last_tried n (Ok None) = n
last_tried n (Err e) = n

-- The result of a query for the keyboard's flags, with the number of what it took last.
abbrev pub flags_said : Result (Taken (Option KeyboardEnhancementFlags)) Error → Said
flags_said (Ok taken) = Came (Some (flags_seen taken.event))
flags_said (Err e) = Faulted (error_kind e)

module _ {A : Type 0} where
  -- The entry of a read within a limit in the history: a read that took an event, or a poll that found none.
  abbrev pub request_within : Patience → AnyFilter → Result (Option (Taken (InternalEvent A))) Error → Request
  request_within patience f (Ok (Some taken)) = Read patience f
  request_within patience f (Ok None) = Poll patience f
  request_within patience f (Err e) = Poll patience f

  -- Its reply.
  abbrev pub reply_within : Result (Option (Taken (InternalEvent A))) Error → Replied
  reply_within (Ok (Some taken)) = ToTake (Some (kept taken))
  reply_within (Ok None) = ToPoll false
  reply_within (Err e) = Fault (error_kind e)

  -- Such an entry, from one moment to another.
  abbrev pub IsReadOrPoll : {S : Type 0} → (S → List (Option Duration)) → AnyFilter → Option Duration → ℕ → ℕ → Result (Option (Taken (InternalEvent A))) Error → ReaderState S → Entry → ReaderState S → Type 0
  IsReadOrPoll asked f limit start after r = IsCall asked (InTime (λ patience. request_within patience f r) limit start after) (AsksWithin limit start after) (reply_within r)
