use Rattle.std.proofs.Common.{◌≡◌, ◌≤◌, length, take, min}
use Rattle.keymap.specs.inside.Places.{deepest, place_at}
use Rattle.keymap.proofs.places.longest_at.Given as goal

-- Nothing was found at a greater count.
abbrev pub invariant-loop-count : goal.invariant-loop-count
invariant-loop-count g l = record {
  found : deepest (λ n. (place_at l.places (take n l.keys)).number) (min (length l.keys) 8) ≡ deepest (λ n. (place_at l.places (take n l.keys)).number) l.count;
  few : l.count ≤ 8;
  fits : l.count ≤ length l.keys;
}

abbrev pub decreases-loop-count : goal.decreases-loop-count
decreases-loop-count g l = l.count
