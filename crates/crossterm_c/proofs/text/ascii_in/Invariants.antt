use Rattle.std.proofs.Common.{◌<◌, take}
use Rattle.std.specs.List.{AllByRecursion}
use Rattle.crossterm_c.proofs.text.ascii_in.Given as goal

-- The bytes before this one are ASCII.
abbrev pub invariant-loop-i : goal.invariant-loop-i
invariant-loop-i l = AllByRecursion (λ b. b < 128) (take l.i l.bytes)
