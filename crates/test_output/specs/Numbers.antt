-- How a device of modes answers if its modes are numbers.
use Rattle.std.specs.Prelude.{◌≡◌, ℕ, ◌+◌, min, Ok, Err}
use Rattle.crossterm.specs.Modes.{ModeCall, Gets, SetsRaw, Sets, Sizes}

-- The device's mode is returned, or a new one is set. A call that is refused, or asks for the size, changes nothing.
-- The raw mode of a number is 100 more, at most 255.
abbrev pub numbers_answered : {D : Type 0} → (D → ℕ) → D → ModeCall ℕ → D → Type 0
numbers_answered mode s (Gets (Ok mode_now)) t = (mode_now ≡ mode s) × (mode t ≡ mode s)
numbers_answered mode s (Gets (Err e)) t = mode t ≡ mode s
numbers_answered mode s (SetsRaw of (Ok _)) t = mode t ≡ min (of + 100) 255
numbers_answered mode s (SetsRaw of (Err e)) t = mode t ≡ mode s
numbers_answered mode s (Sets set (Ok _)) t = mode t ≡ set
numbers_answered mode s (Sets set (Err e)) t = mode t ≡ mode s
numbers_answered mode s (Sizes size) t = mode t ≡ mode s
