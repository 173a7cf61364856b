use Rattle.std.proofs.Common.{take, map}
use Rattle.crossterm_types.specs.Seen.{seen}
use Rattle.test_input.proofs.PlainLaws.{Found}
use Rattle.test_input.proofs.plain.divide.Given as goal

-- The bytes before this one are divided.
abbrev pub invariant-loop-marked : goal.invariant-loop-marked
invariant-loop-marked g l = Found (take l.marked-index l.bytes) l.part.items l.lengths.items (map seen l.events.items)
