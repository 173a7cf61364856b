use Rattle.std.proofs.Common.{◌≡◌, length, map, take}
use Rattle.keymap.specs.Chords.{chord}
use Rattle.keymap.proofs.few_keys.FewKeys.chords_of.Given as goal

-- The chords of the keys so far.
abbrev pub invariant-loop-key : goal.invariant-loop-key
invariant-loop-key l = (l.chords ≡ map chord (take l.key-index l.keys)) × (length l.chords ≡ l.key-index)
