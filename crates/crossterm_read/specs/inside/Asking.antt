-- The outcome of one question to a source, and of many until one is answered.
use Rattle.std.specs.Prelude.{◌≡◌, ◌≢◌, ◌<◌, ℕ, Bool, true, false, List, [], ◌∷◌, ◌++◌, Result, Ok, Err, Option, Some, None, IfErr}
use Rattle.std.specs.IoError.{error_kind}
use Rattle.std.specs.declared.io.Error.{Error}
use Rattle.std.specs.declared.io.ErrorKind.{ErrorKind}
use Rattle.std.specs.declared.io.ErrorKind.TheVariants.{Interrupted}
use Rattle.crossterm_types.specs.Seen.{Seen, seen}
use Rattle.crossterm_types.specs.declared.event.InternalEvent.{InternalEvent}
use Rattle.crossterm_read.specs.Answers.{SourceAnswer, Gave, Failed, IsNoFault, IsSteady}
use Rattle.crossterm_read.specs.declared.read.reader.AtWake.{AtWake}
use Rattle.crossterm_read.specs.declared.read.reader.AtWake.TheVariants.{GoesOn}
use Rattle.crossterm_read.specs.declared.read.reader.Once.{Once}
use Rattle.crossterm_read.specs.declared.read.reader.Once.TheVariants as once
use Rattle.crossterm_read.specs.declared.read.held.Taken.{Taken}
use Rattle.crossterm_read.specs.Store.{EventStore, ReaderState, Arrives}
use Rattle.crossterm_read.specs.inside.Replies.{kept}
use Rattle.crossterm_read.specs.Steps.{Patience, Passes, Asks, RefusedOnlyWithoutRoom, TakeReplies}
use Rattle.std.specs.Duration.{as_nanos}
use Rattle.std.specs.Option.{option_map}
use Rattle.std.specs.declared.time.Duration.{Duration}
use Rattle.crossterm_types.specs.Timing.{left_over}
use Rattle.crossterm_types.specs.declared.event.timeout.PollTimeout.{PollTimeout}
use Rattle.crossterm_read.specs.Device.{AsksWith}
use Rattle.crossterm_read.specs.inside.Numbers.{IsOrderly}

-- The held events with one more.
abbrev pub held_with : EventStore → Seen × ℕ → EventStore
held_with s x = record s { held = s.held ++ x ∷ [] }

module _ {A : Type 0} where
  -- how asking ended that gives an event, nothing, or a fault
  abbrev pub end_of : Result (Option (Taken (InternalEvent A))) Error → Result Bool ErrorKind
  end_of (Ok (Some taken)) = Ok true
  end_of (Ok None) = Ok false
  end_of (Err e) = Err (error_kind e)

  -- what is held with the event that is given
  abbrev pub all_of : EventStore → Result (Option (Taken (InternalEvent A))) Error → EventStore
  all_of t (Ok (Some taken)) = held_with t (kept taken)
  all_of t (Ok None) = t
  all_of t (Err e) = t

  -- An event that is given would be the first one admitted, if it was held.
  abbrev pub WouldGiveFirst : (Seen → Bool) → EventStore → Result (Option (Taken (InternalEvent A))) Error → Type 0
  WouldGiveFirst f t (Ok (Some taken)) = TakeReplies f (held_with t (kept taken)) t (Some (kept taken))
  WouldGiveFirst f t (Ok None) = Unit {0}
  WouldGiveFirst f t (Err e) = Unit {0}

-- There is room for an event that is given, and its number is above those of all others.
abbrev pub HasPlace : {S A : Type 0} → ReaderState S → Taken (InternalEvent A) → Type 0
HasPlace t taken = (0 < t.room) × IsOrderly (t.store.held ++ kept taken ∷ []) t.store.arrivals

-- Some answers were drawn, and asking gave this: the first admitted event, which isn't held then, or none.
abbrev pub Asked : {S A : Type 0} → (S → List SourceAnswer → S → Type 0) → (S → ℕ) → AtWake → (Seen → Bool) → Patience → ReaderState S → ReaderState S → Result (Option (Taken (InternalEvent A))) Error → Type 0
Asked drawn failed wake f patience s t result = (zs : List SourceAnswer) × drawn s.source zs t.source × Arrives s.store zs (all_of t.store result) × Asks wake f patience s.store.held zs (end_of result)
    × IfErr result (λ e. RefusedOnlyWithoutRoom s.room zs (error_kind e)) × IsSteady failed s.source zs t.source × WouldGiveFirst f t.store result

-- The outcome of one question to the source, after room for one event was made. An admitted event isn't held.
abbrev pub DrawsOne : {S A : Type 0} → (S → List SourceAnswer → S → Type 0) → (S → ℕ) → AtWake → (Seen → Bool) → ReaderState S → ReaderState S → Once A → Type 0
DrawsOne drawn failed wake f s t once.Refused = t ≡ s
DrawsOne drawn failed wake f s t (once.Broke e) = drawn s.source (Failed (error_kind e) ∷ []) t.source × Arrives s.store (Failed (error_kind e) ∷ []) t.store × (wake ≡ GoesOn → error_kind e ≢ Interrupted)
DrawsOne drawn failed wake f s t (once.Came taken) = drawn s.source (Gave (seen taken.event) ∷ []) t.source × Arrives s.store (Gave (seen taken.event) ∷ []) (held_with t.store (kept taken)) × (f (seen taken.event) ≡ true)
    × (failed t.source ≡ failed s.source) × (t.store.held ≡ s.store.held) × HasPlace t taken
DrawsOne drawn failed wake f s t once.Nothing = (z : SourceAnswer) × drawn s.source (z ∷ []) t.source × Arrives s.store (z ∷ []) t.store × Passes wake f z × (IsNoFault z → failed t.source ≡ failed s.source)

-- If it is an error, its kind meets the condition.
abbrev pub BreaksWhere : {A : Type 0} → Once A → (ErrorKind → Type 0) → Type 0
BreaksWhere (once.Broke e) P = P (error_kind e)
BreaksWhere once.Refused P = Unit {0}
BreaksWhere (once.Came taken) P = Unit {0}
BreaksWhere once.Nothing P = Unit {0}

-- No room for an event could be made.
abbrev pub IsRefused : {A : Type 0} → Once A → Type 0
IsRefused (once.Broke e) = ⊥
IsRefused once.Refused = Unit {0}
IsRefused (once.Came taken) = ⊥
IsRefused once.Nothing = ⊥

-- The device was asked once at most, with what is left of the limit at this moment.
abbrev pub AsksInTime : PollTimeout → ℕ → List (Option Duration) → List (Option Duration) → Type 0
AsksInTime timeout now old new = (left : Option Duration) × (option_map as_nanos left ≡ left_over timeout now) × AsksWith left old new
