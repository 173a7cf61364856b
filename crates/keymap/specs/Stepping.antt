-- A step of a matcher over a reader that threads share.
use Rattle.std.specs.Prelude.{◌≡◌, ◌<◌, ℕ, false, List, [], Option, Some, Result, Ok, Err}
use Rattle.std.specs.IoError.{error_kind}
use Rattle.std.specs.Option.{option_map}
use Rattle.std.specs.declared.io.Error.{Error}
use Rattle.std.specs.declared.io.ErrorKind.{ErrorKind}
use Rattle.std.specs.declared.io.ErrorKind.TheVariants.{OutOfMemory}
use Rattle.std.specs.declared.time.Duration.{Duration}
use Rattle.crossterm_types.specs.Seen.{Seen}
use Rattle.crossterm_types.specs.declared.event.filter.AnyFilter.TheVariants as filters
use Rattle.crossterm_read.specs.Answers.{SourceAnswer}
use Rattle.crossterm_read.specs.Entries.{Polls, TakesWithin}
use Rattle.crossterm_read.specs.History.{Known}
use Rattle.keymap.specs.Matching.{Matching, MatcherState, IsFlushed, TakesOutcome, outcome_capacity, with_room}
use Rattle.keymap.specs.Taking.{TakesEvent}
use Rattle.keymap.specs.Outcomes.{SeenOutcome}
use Rattle.keymap.specs.declared.outcome.Outcome.{Outcome}
use Rattle.keymap.specs.Outcomes.{outcome_seen}

-- What a step returns: an outcome or none, or the kind of an error.
pub data StepAnswer : Type 0 where
  Gave : Option SeenOutcome → StepAnswer
  Failed : ErrorKind → StepAnswer

-- What a contract says of a step's result: its outcome, or its error's kind.
abbrev pub step_answer : {A : Type 0} → Result (Option (Outcome A)) Error → StepAnswer
step_answer (Ok outcome) = Gave (option_map outcome_seen outcome)
step_answer (Err e) = Failed (error_kind e)

-- A step changes a matcher from `m` to `n` and what its pass knows from `v` to `w`, with the answer `a`.
-- It reads within its limit. If no outcome waits, there has to be room for the 8 outcomes that an event may lead to.
pub data Steps {S : Type 0} (drawn : S → List SourceAnswer → S → Type 0) (asked : S → List (Option Duration)) (limit : Option Duration) (begins : ℕ → Type 0) (after : ℕ) (m : MatcherState) (v : Known S) (n : MatcherState) (w : Known S) (a : StepAnswer) : Type 0 where
  -- An outcome waited: it is returned, and nothing is read.
  waited : (x : SeenOutcome) → TakesOutcome m.matching (Some x) n.matching → outcome_capacity n ≡ outcome_capacity m → w ≡ v → a ≡ Gave (Some x) → Steps drawn asked limit begins after m v n w a
  -- There was no room for what may come, and none was made: nothing is read.
  refused : m.matching.waiting ≡ [] → m.room < 8 → n ≡ m → w ≡ v → a ≡ Failed OutOfMemory → Steps drawn asked limit begins after m v n w a
  -- The read failed: its error is returned.
  unread : m.matching.waiting ≡ [] → n ≡ with_room 8 m → (e : Error) → Polls drawn asked filters.Event limit begins after v w (Err e) → a ≡ Failed (error_kind e) → Steps drawn asked limit begins after m v n w a
  -- No event came within the limit: the matcher is flushed, and its first outcome, if any, is returned.
  idle : m.matching.waiting ≡ [] → Polls drawn asked filters.Event limit begins after v w (Ok false) → (u : Matching) → IsFlushed m.matching u → (x : Option SeenOutcome) → TakesOutcome u x n.matching
      → outcome_capacity n ≡ outcome_capacity (with_room 8 m) → a ≡ Gave x → Steps drawn asked limit begins after m v n w a
  -- An event was read: the matcher takes it, and its first outcome, if any, is returned.
  came : m.matching.waiting ≡ [] → (e : Seen) → TakesWithin drawn asked filters.Event limit begins after v w e → (u : Matching) → TakesEvent m.matching e u
      → (x : Option SeenOutcome) → TakesOutcome u x n.matching → outcome_capacity n ≡ outcome_capacity (with_room 8 m) → a ≡ Gave x → Steps drawn asked limit begins after m v n w a
