-- A slice that takes what fits of a text, and counts all of it.
use Rattle.std.specs.Prelude.{◌≡◌, ◌≤◌, ◌+◌, ℕ, List, ◌++◌, length, take, drop}

-- More bytes of a text come, of which `m` were counted before, and `n` are counted then.
-- As long as all fit, they are at the front of the slice, and the rest of it is unchanged.
pub record Puts (old : List ℕ) (m : ℕ) (bytes new : List ℕ) (n : ℕ) : Type 0 where
  pub counted : n ≡ m + length bytes
  pub room : length new ≡ length old
  pub front : n ≤ length old → take n new ≡ take m old ++ bytes
  pub back : n ≤ length old → drop n new ≡ drop n old
