use Rattle.std.proofs.Common.{take}
use Rattle.crossterm_parse.specs.Tracking.{KeptAgrees}
use Rattle.test_input.proofs.plain.meanings.read_digits.Given as goal

-- The bytes before this one are read.
abbrev pub invariant-loop-byte : goal.invariant-loop-byte
invariant-loop-byte l = KeptAgrees l.parameters (take l.byte-index l.text)
