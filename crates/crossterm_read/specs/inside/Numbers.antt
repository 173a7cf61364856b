-- Arrival numbers that rise.
use Rattle.std.specs.Prelude.{ℕ, ◌<◌, List, [], ◌∷◌}
use Rattle.std.specs.List.{AllByRecursion}
use Rattle.crossterm_types.specs.Seen.{Seen}
use Rattle.crossterm_read.specs.Store.{IsLow}

-- Each number is below all that come after it.
abbrev pub Rise : List (Seen × ℕ) → Type 0
Rise [] = Unit {0}
Rise (h ∷ hs) = AllByRecursion (λ k. h.1 < k.1) hs × Rise hs

-- The numbers of the held events rise, and stay below that of the next one.
pub record Sound (held : List (Seen × ℕ)) (arrivals : ℕ) : Type 0 where
  pub rise : Rise held
  pub below : AllByRecursion (λ k. k.1 < arrivals) held

-- Until the arrivals are at the greatest number, those of the held events rise and stay below them.
abbrev pub IsOrderly : List (Seen × ℕ) → ℕ → Type 0
IsOrderly held arrivals = IsLow arrivals → Sound held arrivals
