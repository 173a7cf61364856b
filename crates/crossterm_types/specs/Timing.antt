-- Limits of time.
use Rattle.std.specs.Prelude.{◌≤◌, ◌-◌, ℕ, Option, Some, None}
use Rattle.std.specs.Option.{option_map}
use Rattle.std.specs.Duration.{as_nanos}
use Rattle.std.specs.declared.time.Duration.{Duration}
use Rattle.crossterm_types.specs.declared.event.timeout.PollTimeout.{PollTimeout}

-- The nanoseconds from the start to a moment; 0 if the moment is before the start.
abbrev pub gone : PollTimeout → ℕ → ℕ
gone timeout now = now - as_nanos timeout.start

-- There is a limit, and so many nanoseconds are at least as long.
abbrev pub Reaches : Option Duration → ℕ → Type 0
Reaches None time = ⊥
Reaches (Some limit) time = as_nanos limit ≤ time

-- At this moment the limit has passed. Without a limit it never does.
abbrev pub HasElapsed : PollTimeout → ℕ → Type 0
HasElapsed timeout now = Reaches timeout.limit (gone timeout now)

-- The time that is left of the limit, in nanoseconds: the limit less the time gone, at least 0. Nothing without a limit.
abbrev pub left_over : PollTimeout → ℕ → Option ℕ
left_over timeout now = option_map (λ limit. as_nanos limit - gone timeout now) timeout.limit

-- Between two states of a clock, this was the first time that it returned.
abbrev pub IsFirst : {C : Type 0} → (C → ℕ) → (C → ℕ → C → Type 0) → C → C → ℕ → Type 0
IsFirst latest began old new start = (latest old ≤ start) × (start ≤ latest new) × began old start new

-- The first time that the clock returned, from any state on, stays the first.
abbrev pub KeepsFirst : {C : Type 0} → (C → ℕ → C → Type 0) → C → C → Type 0
KeepsFirst {C} began old new = (from : C) (start : ℕ) → began from start old → began from start new
