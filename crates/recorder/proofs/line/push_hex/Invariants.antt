-- What was pushed and the digits of what is left are the digits of the whole.
use Rattle.std.proofs.Common.{◌≡◌, ◌++◌, drop, length, take}
use Rattle.hex.specs.Hex.{encode_lower}
use Rattle.recorder.proofs.line.push_hex.Given as goal

abbrev pub invariant-loop-byte : goal.invariant-loop-byte
invariant-loop-byte g l = (l.out.items ++ encode_lower (drop l.byte-index l.bytes) ≡ l.initial.out.items ++ encode_lower l.bytes)
    × (take (length l.initial.out.items) l.out.items ≡ l.initial.out.items)
