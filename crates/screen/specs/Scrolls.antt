-- Lists that scroll in some rows of a screen.
use Rattle.std.specs.Prelude.{◌≡◌, ◌⊎◌, ℕ, ◌+◌, ◌-◌, ◌<◌, ◌≤◌, ◌==◌, ◌&&◌, nat_lt, Option, Some, None, if◌then◌else◌}

-- A list in `height` rows: how many entries it has, which one is chosen, and which one is in the first row.
pub record Scroll : Type 0 where
  pub count : ℕ
  pub height : ℕ
  pub chosen : ℕ
  pub top : ℕ

-- The entry `at` is in sight if `top` is in the first row. A list without rows counts as one with one row.
abbrev pub InSight : ℕ → ℕ → ℕ → Type 0
InSight height top at = (top ≤ at) × ((at < top + height) ⊎ (at ≡ top))

-- No row is empty while an entry above the first row is out of sight.
abbrev pub IsFull : ℕ → ℕ → ℕ → Type 0
IsFull count height top = top ≤ count - height

-- How many entries two entries are apart.
abbrev pub distance : ℕ → ℕ → ℕ
distance a b = (a - b) + (b - a)

-- The entry in the first row changes from `old` to `new`.
pub record MovesTo (count height at old new : ℕ) : Type 0 where
  -- The entry `at` is in sight.
  pub sight : InSight height new at
  -- No row is empty while an entry above is out of sight.
  pub full : IsFull count height new
  -- No other first entry with both properties is nearer to the old one.
  pub nearest : (top : ℕ) → InSight height top at → IsFull count height top → distance old new ≤ distance old top

-- The entry `at`, or the last one if there are fewer, or 0 without entries.
abbrev pub limited : ℕ → ℕ → ℕ
limited count at = if nat_lt at count then at else count - 1

-- An older list becomes one of `count` entries in `height` rows.
pub record Becomes (old : Scroll) (count height at : ℕ) (new : Scroll) : Type 0 where
  pub size : (new.count ≡ count) × (new.height ≡ height)
  -- The entry `at` is chosen, or the last one if there is no such entry.
  pub choice : new.chosen ≡ limited count at
  -- The list scrolls no further than the chosen entry and full rows require.
  pub moves : MovesTo count height new.chosen old.top new.top

-- How many entries make a page: one for each row, but at least one.
abbrev pub page : ℕ → ℕ
page height = if height == 0 then 1 else height

-- The chosen entry, or `None` if the list is empty.
abbrev pub chosen_of : Scroll → Option ℕ
chosen_of s = if s.count == 0 then None else Some s.chosen

-- The entry in a row of the list, or `None` if the row is empty or isn't there.
abbrev pub entry_at : Scroll → ℕ → Option ℕ
entry_at s row = if nat_lt row s.height && nat_lt (s.top + row) s.count then Some (s.top + row) else None
