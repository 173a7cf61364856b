use Rattle.std.proofs.Common.{take}
use Rattle.crossterm_parse.specs.Transitions.{Opens}
use Rattle.crossterm_parse.specs.declared.state.State.TheVariants.{Numbered}
use Rattle.crossterm_parse.proofs.state.read_few_numbers.Given as goal

-- the bytes before this one were read
abbrev pub invariant-loop-i : goal.invariant-loop-i
invariant-loop-i l = Opens (Numbered l.initial.parameters l.initial.opening) (Numbered l.parameters l.opening) (take l.i l.bytes)
