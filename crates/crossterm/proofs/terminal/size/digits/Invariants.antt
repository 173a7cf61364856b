use Rattle.std.proofs.Common.{◌≡◌, ◌≤◌, drop}
use Rattle.crossterm.specs.Sizes.{number_in, size_after}
use Rattle.crossterm.proofs.terminal.size.digits.Given as goal

-- the digits before the next byte have made the number, and with those after them it is the number of all
abbrev pub invariant-loop-byte : goal.invariant-loop-byte
invariant-loop-byte l = (l.number ≤ 65536) × (size_after l.number (drop l.byte-index l.bytes) ≡ number_in l.bytes)
