use Rattle.std.proofs.Common.{take}
use Rattle.crossterm_parse.specs.Tracking.{Tracks}
use Rattle.test_input.proofs.plain.meanings.read_number.Given as goal

-- The bytes before this one are read.
abbrev pub invariant-loop-byte : goal.invariant-loop-byte
invariant-loop-byte l = Tracks (take l.byte-index l.text) l.read
