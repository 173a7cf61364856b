-- One call of a reader, as a step.
use Rattle.std.specs.Prelude.{◌≡◌, ◌≢◌, ◌⊎◌, ◌+◌, ◌≤◌, ℕ, Bool, true, false, List, [], ◌∷◌, ◌++◌, length, Option, Some, None, Result, Ok, Err, slice_index_or, position, remove, is_some}
use Rattle.std.specs.List.{AllByRecursion}
use Rattle.std.specs.declared.io.ErrorKind.{ErrorKind}
use Rattle.std.specs.declared.io.ErrorKind.TheVariants.{OutOfMemory, Interrupted}
use Rattle.crossterm_types.specs.Seen.{Seen}
use Rattle.std.specs.declared.time.Duration.{Duration}
use Rattle.crossterm_types.specs.Timing.{Reaches}
use Rattle.crossterm_read.specs.Answers.{SourceAnswer, Gave, Nothing, Failed, gave}
use Rattle.crossterm_read.specs.Device.{IsAtOnce}
use Rattle.crossterm_read.specs.declared.read.reader.AtWake.{AtWake}
use Rattle.crossterm_read.specs.declared.read.reader.AtWake.TheVariants.{Stops, GoesOn}
use Rattle.crossterm_read.specs.Replies.{Replied, ToTake, Fault}
use Rattle.crossterm_read.specs.Store.{EventStore, Arrives}

-- The index of the first held event that the filter admits.
abbrev pub first_admitted : (Seen → Bool) → List (Seen × ℕ) → Option ℕ
first_admitted f held = position (λ h. f h.0) held

-- An answer after which a call goes on: an event that isn't admitted, nothing, or a wake-up if it doesn't stop there.
abbrev pub Passes : AtWake → (Seen → Bool) → SourceAnswer → Type 0
Passes wake f (Gave x) = f x ≡ false
Passes wake f Nothing = Unit {0}
Passes wake f (Failed kind) = (wake ≡ GoesOn) × (kind ≡ Interrupted)

-- How long a call may ask its source.
pub data Patience : Type 0 where
  -- So many times at most.
  UpTo : ℕ → Patience
  -- Within a limit of time, if there is one; so many nanoseconds have passed at the end.
  Within : Option Duration → ℕ → Patience

-- So many answers are allowed: no more than there are tries, and one if the limit is zero.
abbrev pub Allows : Patience → ℕ → Type 0
Allows (UpTo tries) n = n ≤ tries
Allows (Within limit past) n = IsAtOnce limit → n ≤ 1

-- The limit has passed, and the source has answered; once only if the limit is zero.
pub record HasPassed (limit : Option Duration) (past n : ℕ) : Type 0 where
  pub begun : 1 ≤ n
  pub once : IsAtOnce limit → n ≤ 1
  pub passed : Reaches limit past

-- After so many answers the call gives up.
abbrev pub IsSpent : Patience → ℕ → Type 0
IsSpent (UpTo tries) n = n ≡ tries
IsSpent (Within limit past) n = HasPassed limit past n

-- The first admitted event came, after answers that were passed over.
pub record Finds (wake : AtWake) (f : Seen → Bool) (zs : List SourceAnswer) : Type 0 where
  pub before : List SourceAnswer
  pub event : Seen
  pub all : zs ≡ before ++ Gave event ∷ []
  pub passed : AllByRecursion (Passes wake f) before
  pub admitted : f event ≡ true

-- An error of this kind came, after answers that were passed over.
pub record Fails (wake : AtWake) (f : Seen → Bool) (kind : ErrorKind) (zs : List SourceAnswer) : Type 0 where
  pub before : List SourceAnswer
  pub all : zs ≡ before ++ Failed kind ∷ []
  pub passed : AllByRecursion (Passes wake f) before
  pub stops : wake ≡ GoesOn → kind ≢ Interrupted

-- The source's answers in a call, and how asking ends. It is true if an admitted event is there, and false if the
-- tries or the time are used up. If an admitted event is held, the source isn't asked. Memory for an event may be
-- refused first.
abbrev pub Asks : AtWake → (Seen → Bool) → Patience → List (Seen × ℕ) → List SourceAnswer → Result Bool ErrorKind → Type 0
Asks wake f patience held zs (Ok true) =
    ((is_some (first_admitted f held) ≡ true) × (zs ≡ [])) ⊎ ((first_admitted f held ≡ None) × Finds wake f zs × Allows patience (length zs))
Asks wake f patience held zs (Ok false) = (first_admitted f held ≡ None) × AllByRecursion (Passes wake f) zs × IsSpent patience (length zs)
Asks wake f patience held zs (Err kind) = (first_admitted f held ≡ None)
    × ((Fails wake f kind zs × Allows patience (length zs)) ⊎ ((kind ≡ OutOfMemory) × AllByRecursion (Passes wake f) zs × Allows patience (length zs + 1)))

-- The result of a poll, by how asking ended. After a wake-up it returns false.
abbrev pub PollReplies : Result Bool ErrorKind → Result Bool ErrorKind → Type 0
PollReplies (Ok is_there) r = r ≡ Ok is_there
PollReplies (Err kind) r = ((kind ≡ Interrupted) × (r ≡ Ok false)) ⊎ ((kind ≢ Interrupted) × (r ≡ Err kind))

-- The first admitted event is removed and given with its number, if one is held. No other is touched.
abbrev pub TakeReplies : (Seen → Bool) → EventStore → EventStore → Option (Seen × ℕ) → Type 0
TakeReplies f s t None = (first_admitted f s.held ≡ None) × (t ≡ s)
TakeReplies f s t (Some x) = (i : ℕ) × (first_admitted f s.held ≡ Some i) × (slice_index_or s.held i x ≡ x) × (t ≡ record s { held = remove s.held i })

-- The event that a read takes and returns, by how asking ended.
abbrev pub ReadReplies : (Seen → Bool) → Result Bool ErrorKind → EventStore → EventStore → Replied → Type 0
ReadReplies f (Ok true) s t r = (x : Option (Seen × ℕ)) × TakeReplies f s t x × (r ≡ ToTake x)
ReadReplies f (Ok false) s t r = (t ≡ s) × (r ≡ ToTake None)
ReadReplies f (Err kind) s t r = (t ≡ s) × (r ≡ Fault kind)

-- A poll: the source gives these answers, their events are held, and this is returned.
abbrev pub PollStep : Patience → (Seen → Bool) → List SourceAnswer → EventStore → EventStore → Result Bool ErrorKind → Type 0
PollStep patience f zs s t r = (end : Result Bool ErrorKind) × Asks Stops f patience s.held zs end × Arrives s zs t × PollReplies end r

-- A call that takes what comes, and that stops at a wake-up or goes on.
abbrev pub NextStep : AtWake → Patience → (Seen → Bool) → List SourceAnswer → EventStore → EventStore → Replied → Type 0
NextStep wake patience f zs s t r = (end : Result Bool ErrorKind) × (m : EventStore) × Asks wake f patience s.held zs end × Arrives s zs m × ReadReplies f end m t r

-- A read goes on after a wake-up.
abbrev pub ReadStep : Patience → (Seen → Bool) → List SourceAnswer → EventStore → EventStore → Replied → Type 0
ReadStep = NextStep GoesOn

-- A take doesn't ask the source.
abbrev pub TakeStep : (Seen → Bool) → List SourceAnswer → EventStore → EventStore → Replied → Type 0
TakeStep f zs s t r = (zs ≡ []) × ReadReplies f (Ok true) s t r

-- Memory is refused only if the source's last answer was a refusal, or as many events came as there was room for.
abbrev pub RefusedOnlyWithoutRoom : ℕ → List SourceAnswer → ErrorKind → Type 0
RefusedOnlyWithoutRoom room zs kind = kind ≡ OutOfMemory → ((ys : List SourceAnswer) × (zs ≡ ys ++ Failed OutOfMemory ∷ [])) ⊎ (room ≤ length (gave zs))
