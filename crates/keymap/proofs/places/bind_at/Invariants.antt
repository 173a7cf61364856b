use Rattle.std.proofs.Common.{◌≡◌, ◌<◌, ◌+◌, length, List}
use Rattle.std.specs.HashMap.{spare}
use Rattle.crossterm_types.specs.declared.event.key.KeyEvent.{KeyEvent}
use Rattle.keymap.specs.inside.Places.{place_at}
use Rattle.keymap.proofs.Placing.{marked_to}
use Rattle.keymap.proofs.places.bind_at.Given as goal

-- The fronts so far are marked, and there is room for those that are left.
abbrev pub invariant-loop-count : goal.invariant-loop-count
invariant-loop-count g l = record {
  marked : (keys : List KeyEvent) → place_at l.places keys ≡ marked_to l.chords l.count (place_at l.fn.places keys) keys;
  room : length l.chords < spare l.places + l.count;
}
