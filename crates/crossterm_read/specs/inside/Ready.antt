-- The event that is ready while no other is held.
use Rattle.std.specs.Prelude.{◌≡◌, ◌<◌, ℕ, List, [], ◌∷◌, Option, Some, None}
use Rattle.std.specs.Borrow.{Bor}
use Rattle.crossterm_types.specs.Seen.{Seen, seen}
use Rattle.crossterm_types.specs.declared.event.InternalEvent.{InternalEvent}
use Rattle.crossterm_read.specs.declared.read.held.Taken.{Taken}
use Rattle.crossterm_read.specs.Store.{Holding}
use Rattle.crossterm_read.specs.inside.Replies.{kept}

module _ {A : Type 0} where
  -- The events that are held: the one that is ready, and those in the queues.
  abbrev pub held_by : Option (Taken (InternalEvent A)) → List (Seen × ℕ) → List (Seen × ℕ)
  held_by None queued = queued
  held_by (Some taken) queued = kept taken ∷ queued

  -- The same without their numbers.
  abbrev pub seen_by : Option (Bor (InternalEvent A)) → List Seen → List Seen
  seen_by None queued = queued
  seen_by (Some event) queued = seen event.now ∷ queued

  -- How many are ready.
  abbrev pub one_of : Option (Taken (InternalEvent A)) → ℕ
  one_of None = 0
  one_of (Some taken) = 1

  -- While one is ready, no other is in the queues, and there is room for it there.
  abbrev pub IsReadyAlone : Option (Taken (InternalEvent A)) → Holding → Type 0
  IsReadyAlone None queued = Unit {0}
  IsReadyAlone (Some taken) queued = (queued.store.held ≡ []) × (0 < queued.room)
