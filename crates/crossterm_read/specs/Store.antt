-- A reader as its callers see it.
use Rattle.std.specs.Prelude.{◌≡◌, ℕ, ◌+◌, ◌-◌, ◌^◌, min, List, [], ◌∷◌, ◌++◌, length, ◌<◌}
use Rattle.crossterm_types.specs.Seen.{Seen}
use Rattle.crossterm_read.specs.Answers.{SourceAnswer, Gave, Nothing, Failed}

-- The events that a reader holds. An event's arrival number is how many arrived before it.
pub record EventStore : Type 0 where
  -- The held events, each with its arrival number.
  pub held : List (Seen × ℕ)
  -- The number of the next event.
  pub arrivals : ℕ

-- The events that a reader holds, and for how many more there is room.
pub record Holding : Type 0 where
  pub store : EventStore
  pub room : ℕ

-- A reader: the events that it holds, for how many more it has room, and its source.
pub record ReaderState (S : Type 0) : Type 0 where
  pub store : EventStore
  pub room : ℕ
  pub source : S

-- How many events it can hold without asking for memory.
abbrev pub reader_capacity : {S : Type 0} → ReaderState S → ℕ
reader_capacity s = length s.store.held + s.room

-- The number after `n`. Numbers rise to the greatest u64 and stay there.
abbrev pub next_number : ℕ → ℕ
next_number n = min (n + 1) (2 ^ 64 - 1)

-- The events among the answers, each with its arrival number.
abbrev pub arrived : ℕ → List SourceAnswer → List (Seen × ℕ)
arrived n [] = []
arrived n (Gave x ∷ zs) = (x, n) ∷ arrived (next_number n) zs
arrived n (Nothing ∷ zs) = arrived n zs
arrived n (Failed kind ∷ zs) = arrived n zs

-- The number of the next event after these answers.
abbrev pub numbered_after : ℕ → List SourceAnswer → ℕ
numbered_after n [] = n
numbered_after n (Gave x ∷ zs) = numbered_after (next_number n) zs
numbered_after n (Nothing ∷ zs) = numbered_after n zs
numbered_after n (Failed kind ∷ zs) = numbered_after n zs

-- The events among the answers join the held ones at their end.
pub record Arrives (s : EventStore) (zs : List SourceAnswer) (t : EventStore) : Type 0 where
  pub held : t.held ≡ s.held ++ arrived s.arrivals zs
  pub arrivals : t.arrivals ≡ numbered_after s.arrivals zs

-- A number that isn't the greatest u64 yet.
abbrev pub IsLow : ℕ → Type 0
IsLow n = n < 2 ^ 64 - 1
