-- The limits with which a call asks its device, if it has a limit of time itself.
use Rattle.std.specs.Prelude.{◌≡◌, ◌≢◌, ◌⊎◌, ◌≤◌, ℕ, List, [], ◌∷◌, ◌++◌, Option, None}
use Rattle.std.specs.Duration.{as_nanos}
use Rattle.std.specs.List.{AllByRecursion}
use Rattle.std.specs.Option.{option_map}
use Rattle.std.specs.declared.time.Duration.{Duration}
use Rattle.crossterm_types.specs.Timing.{left_over}
use Rattle.crossterm_types.specs.declared.event.timeout.PollTimeout.{PollTimeout}
use Rattle.crossterm_read.specs.Device.{AsksEach, IsAtOnce}

-- This was left of the limit at some moment between its start and `last`.
abbrev pub WasLeft : PollTimeout → ℕ → Option Duration → Type 0
WasLeft timeout last left = (now : ℕ) × (as_nanos timeout.start ≤ now) × (now ≤ last) × (option_map as_nanos left ≡ left_over timeout now)

-- Only the last of these limits may be zero.
abbrev pub OnlyLastIsAtOnce : List (Option Duration) → Type 0
OnlyLastIsAtOnce [] = Unit {0}
OnlyLastIsAtOnce (limit ∷ limits) = (limits ≢ [] → IsAtOnce limit → ⊥) × OnlyLastIsAtOnce limits

-- The device was asked any number of times more, each time with what was left of the limit; once nothing was left, no
-- more.
abbrev pub AsksLeft : PollTimeout → ℕ → List (Option Duration) → List (Option Duration) → Type 0
AsksLeft timeout last old new = (more : List (Option Duration)) × (new ≡ old ++ more) × AllByRecursion (WasLeft timeout last) more × OnlyLastIsAtOnce more

-- Between two moments the device was asked any number of times, each time with what was left of a limit from the first
-- moment on.
abbrev pub AsksWithin : Option Duration → ℕ → ℕ → List (Option Duration) → List (Option Duration) → Type 0
AsksWithin limit start after old new = (timeout : PollTimeout) × (timeout.limit ≡ limit) × (as_nanos timeout.start ≡ start) × AsksLeft timeout after old new

-- The device was asked in one wait between two moments, and perhaps in a second wait, as long at most, from a third
-- moment on.
abbrev pub AsksTwice : Option Duration → ℕ → ℕ → ℕ → ℕ → List (Option Duration) → List (Option Duration) → Type 0
AsksTwice limit start now second after old new =
    (middle : List (Option Duration)) × AsksWithin limit start now old middle × ((new ≡ middle) ⊎ AsksWithin limit second after middle new)

-- The device was asked any number of times more, each time without a limit.
abbrev pub AsksForever : List (Option Duration) → List (Option Duration) → Type 0
AsksForever old new = AsksEach (λ limit. limit ≡ None) old new
