use Rattle.std.proofs.Common.{take}
use Rattle.crossterm_parse.specs.Transitions.{Opens}
use Rattle.crossterm_parse.specs.declared.state.State.TheVariants.{Sgr}
use Rattle.crossterm_parse.proofs.state.read_few_reports.Given as goal

-- the bytes before this one were read
abbrev pub invariant-loop-i : goal.invariant-loop-i
invariant-loop-i l = Opens (Sgr l.initial.parameters) (Sgr l.parameters) (take l.i l.bytes)
