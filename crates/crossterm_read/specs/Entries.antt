-- Which call of a shared reader an entry of its history is.
use Rattle.std.specs.Prelude.{◌≡◌, ◌⊎◌, ◌≤◌, ◌-◌, ℕ, Bool, false, List, Option, Some, None, Result, Ok, Err, IsErrAnd}
use Rattle.std.specs.IoError.{error_kind}
use Rattle.std.specs.declared.io.Error.{Error}
use Rattle.std.specs.declared.io.ErrorKind.TheVariants.{Other}
use Rattle.crossterm_flags.specs.declared.enhancement.KeyboardEnhancementFlags.{KeyboardEnhancementFlags}
use Rattle.crossterm_types.specs.Seen.{Seen}
use Rattle.crossterm_types.specs.Timing.{Reaches}
use Rattle.crossterm_types.specs.declared.event.Event.{Event}
use Rattle.std.specs.declared.io.ErrorKind.{ErrorKind}
use Rattle.std.specs.declared.time.Duration.{Duration}
use Rattle.crossterm_types.specs.declared.event.filter.AnyFilter.{AnyFilter}
use Rattle.crossterm_types.specs.declared.event.filter.AnyFilter.TheVariants as filters
use Rattle.crossterm_read.specs.Answers.{SourceAnswer}
use Rattle.crossterm_read.specs.Calls.{Request, Poll, Read, Position, Keyboard}
use Rattle.crossterm_read.specs.Device.{AsksAtOnce}
use Rattle.crossterm_read.specs.History.{Entry, Known, Extends}
use Rattle.crossterm_read.specs.Replies.{Replied, Fault, ToTake, Said, Came, event_seen, keyboard_said, poll_reply, position_said, replied, shown}
use Rattle.crossterm_read.specs.Store.{ReaderState}
use Rattle.crossterm_read.specs.Steps.{Patience, UpTo, Within, RefusedOnlyWithoutRoom}
use Rattle.crossterm_read.specs.Waiting.{AsksForever, AsksTwice, AsksWithin}

-- The request with a limit of time, of which no more has passed than between two moments.
abbrev pub InTime : (Patience → Request) → Option Duration → ℕ → ℕ → Request → Type 0
InTime request limit start after call = (past : ℕ) × (past ≤ after - start) × (call ≡ request (Within limit past))

-- The query for the keyboard flags with two waits of one limit, each no longer than between its two moments.
abbrev pub InTwoWaits : Option Duration → ℕ → ℕ → ℕ → ℕ → Request → Type 0
InTwoWaits limit start now second after call = (first : ℕ) × (again : ℕ) × (first ≤ now - start) × (again ≤ after - second) × (call ≡ Keyboard (Within limit first) (Within limit again))

module _ {S : Type 0} (asked : S → List (Option Duration)) where
  -- Such a call was made, with this reply and these limits for the device. Memory was refused only if there was no
  -- room.
  pub record IsCall (such : Request → Type 0) (limits : List (Option Duration) → List (Option Duration) → Type 0) (r : Replied) (found : ReaderState S) (e : Entry) (left : ReaderState S) : Type 0 where
    pub call : such e.call
    pub reply : e.reply ≡ r
    pub limits_so : limits (asked found.source) (asked left.source)
    pub memory : (kind : ErrorKind) → r ≡ Fault kind → RefusedOnlyWithoutRoom found.room e.answers kind

  -- A read by this filter, without a limit.
  abbrev pub IsRead : AnyFilter → Replied → ReaderState S → Entry → ReaderState S → Type 0
  IsRead f = IsCall (λ call. (past : ℕ) × (call ≡ Read (Within None past) f)) AsksForever

  -- A read by this filter with a limit of time, from one moment to another.
  abbrev pub IsReadFor : AnyFilter → Option Duration → ℕ → ℕ → Replied → ReaderState S → Entry → ReaderState S → Type 0
  IsReadFor f limit start after = IsCall (InTime (λ patience. Read patience f) limit start after) (AsksWithin limit start after)

  -- A read by this filter with one try.
  abbrev pub IsTry : AnyFilter → Replied → ReaderState S → Entry → ReaderState S → Type 0
  IsTry f = IsCall (λ call. call ≡ Read (UpTo 1) f) AsksAtOnce

  -- A poll with no try. What was seen is true of the source that it leaves.
  abbrev pub IsLook : (S → Type 0) → ReaderState S → Entry → ReaderState S → Type 0
  IsLook at found e left = ((r : Replied) × IsCall (λ call. call ≡ Poll (UpTo 0) filters.Event) AsksAtOnce r found e left) × at left.source

  -- A poll by this filter with a limit of time, from one moment to another.
  abbrev pub IsPoll : AnyFilter → Option Duration → ℕ → ℕ → Replied → ReaderState S → Entry → ReaderState S → Type 0
  IsPoll f limit start after = IsCall (InTime (λ patience. Poll patience f) limit start after) (AsksWithin limit start after)

  -- A query for the cursor's position with a limit of time, from one moment to another.
  abbrev pub IsPosition : Option Duration → ℕ → ℕ → Replied → ReaderState S → Entry → ReaderState S → Type 0
  IsPosition limit start after = IsCall (InTime Position limit start after) (AsksWithin limit start after)

  -- A query for the keyboard flags, from one moment to another, with a limit for each of its two waits.
  abbrev pub IsKeyboard : Option Duration → ℕ → ℕ → Replied → ReaderState S → Entry → ReaderState S → Type 0
  IsKeyboard limit start after r found e left =
      (now : ℕ) × (second : ℕ) × (start ≤ now) × (now ≤ second) × (second ≤ after) × IsCall (InTwoWaits limit start now second after) (AsksTwice limit start now second after) r found e left

module _ {S : Type 0} (drawn : S → List SourceAnswer → S → Type 0) (asked : S → List (Option Duration)) where
  -- A pass made a read without a limit: it is the last call in the history that the pass has seen.
  abbrev pub Reads : AnyFilter → Known S → Known S → Said → Type 0
  Reads f v w said = (r : Replied) × (said ≡ shown r) × Extends drawn (IsRead asked f r) v w

  -- A pass made a read with one try, as its last call; or another has the reader, nothing came, and the pass didn't
  -- change.
  abbrev pub Tries : AnyFilter → Known S → Known S → Said → Type 0
  Tries f v w said = ((r : Replied) × (said ≡ shown r) × Extends drawn (IsTry asked f r) v w) ⊎ ((said ≡ Came None) × (w ≡ v))

  -- A pass looked at the source, by a poll as its last call; or another has the reader, and the pass is as it was.
  abbrev pub Looks : {X : Type 0} → (X → S → Type 0) → Known S → Known S → Option X → Type 0
  Looks at v w (Some x) = Extends drawn (IsLook asked (at x)) v w
  Looks at v w None = w ≡ v

  -- A pass made a poll, as its last call. Or the limit passed before it got the reader: the result is false, and the
  -- pass is as it was.
  abbrev pub Polls : AnyFilter → Option Duration → (ℕ → Type 0) → ℕ → Known S → Known S → Result Bool Error → Type 0
  Polls f limit begins after v w result =
      (start : ℕ) × begins start × (Extends drawn (IsPoll asked f limit start after (replied (poll_reply result))) v w ⊎ ((result ≡ Ok false) × (w ≡ v) × Reaches limit (after - start)))

  -- A pass made a read with a limit, as its last call, and took this event.
  abbrev pub TakesWithin : AnyFilter → Option Duration → (ℕ → Type 0) → ℕ → Known S → Known S → Seen → Type 0
  TakesWithin f limit begins after v w event = (start : ℕ) × begins start × (number : ℕ) × Extends drawn (IsReadFor asked f limit start after (ToTake (Some (event, number)))) v w

  -- A pass made a read with a limit. If it took no event, it did what a poll does that found none or failed.
  abbrev pub ReadsFor : {A : Type 0} → AnyFilter → Option Duration → (ℕ → Type 0) → ℕ → Known S → Known S → Result (Option (Event A)) Error → Type 0
  ReadsFor f limit begins after v w (Ok (Some event)) = TakesWithin f limit begins after v w (event_seen event)
  ReadsFor f limit begins after v w (Ok None) = Polls f limit begins after v w (Ok false)
  ReadsFor f limit begins after v w (Err e) = Polls f limit begins after v w (Err e)

  -- A pass queried the cursor's position, as its last call. Or the limit passed before it got the reader: that is
  -- `Other`.
  abbrev pub AsksPosition : Duration → (ℕ → Type 0) → ℕ → Known S → Known S → Result (ℕ × ℕ) Error → Type 0
  AsksPosition limit begins after v w result =
      (start : ℕ) × begins start
      × (((r : Replied) × (position_said result ≡ shown r) × Extends drawn (IsPosition asked (Some limit) start after r) v w)
      ⊎ (IsErrAnd result (λ e. error_kind e ≡ Other) × (w ≡ v) × Reaches (Some limit) (after - start)))

  -- A pass queried the keyboard flags, as its last call. Or the limit passed before it got the reader: that is `Other`.
  abbrev pub AsksKeyboard : Duration → (ℕ → Type 0) → ℕ → Known S → Known S → Result (Option KeyboardEnhancementFlags) Error → Type 0
  AsksKeyboard limit begins after v w result =
      (start : ℕ) × begins start
      × (((r : Replied) × (keyboard_said result ≡ shown r) × Extends drawn (IsKeyboard asked (Some limit) start after r) v w)
      ⊎ (IsErrAnd result (λ e. error_kind e ≡ Other) × (w ≡ v) × Reaches (Some limit) (after - start)))
