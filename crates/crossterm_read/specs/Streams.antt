-- The results of a stream, and the work of its worker.
use Rattle.std.specs.Prelude.{◌≡◌, ◌⊎◌, List, [], ◌∷◌, Option, None, Result, IsErr}
use Rattle.std.specs.declared.io.Error.{Error}
use Rattle.std.specs.declared.time.Duration.{Duration}
use Rattle.crossterm_types.specs.declared.event.Event.{Event}
use Rattle.crossterm_types.specs.declared.event.filter.AnyFilter.TheVariants as filters
use Rattle.crossterm_read.specs.Answers.{SourceAnswer}
use Rattle.crossterm_read.specs.Entries.{IsPoll, IsTry}
use Rattle.crossterm_read.specs.History.{Known, Extends}
use Rattle.crossterm_read.specs.Replies.{Replied, ToTake, event_said, shown}
use Rattle.crossterm_read.specs.PassViews.{knows}
use Rattle.crossterm_read.specs.declared.read.shared.pass.Pass.{Pass}
use Rattle.crossterm_read.specs.declared.read.shared.reader.EventReader.{EventReader}
use Rattle.crossterm_read.specs.declared.stream.worker.StreamWorker.{StreamWorker}

module _ {S : Type 0} (drawn : S → List SourceAnswer → S → Type 0) (asked : S → List (Option Duration)) where
  -- The stream's pass made one read with one try: it is the last call in the history that the pass has seen.
  abbrev pub ReadsAtOnce : Replied → Known S → Known S → Type 0
  ReadsAtOnce r v w = Extends drawn (IsTry asked filters.Event r) v w

  -- An item is the reply of such a read; or it is an error, and the pass is as it was.
  abbrev pub GivesItem : {A : Type 0} → Known S → Known S → Result (Event A) Error → Type 0
  GivesItem v w item = ((r : Replied) × (event_said item ≡ shown r) × ReadsAtOnce r v w) ⊎ (IsErr item × (w ≡ v))

  -- Nothing yet: such a read took nothing, or the pass is as it was.
  abbrev pub GivesNothing : Known S → Known S → Type 0
  GivesNothing v w = ReadsAtOnce (ToTake None) v w ⊎ (w ≡ v)

  -- The worker's pass made polls without a limit, one after another, with these replies. All are in the one history.
  abbrev pub PollsOn : Known S → List Replied → Known S → Type 0
  PollsOn v [] w = w ≡ v
  PollsOn v (r ∷ rs) w = (u : Known S) × Extends drawn (IsPoll asked filters.Event None 0 0 r) v u × PollsOn u rs w

  -- The worker's pass made no other calls.
  abbrev pub OnlyPolls : Known S → Known S → Type 0
  OnlyPolls v w = (rs : List Replied) × PollsOn v rs w

module _ {S A : Type 0} where
  -- The worker uses this reader, and its pass is as this one was when the worker began.
  abbrev pub IsWorkerOf : StreamWorker S A → EventReader S A → Pass S A → Type 0
  IsWorkerOf worker r p = (worker.thread.promise.reader.value ≡ r) × (knows worker.thread.promise.pass.value ≡ knows p)
