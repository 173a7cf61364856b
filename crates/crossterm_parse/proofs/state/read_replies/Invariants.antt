use Rattle.std.proofs.Common.{take}
use Rattle.crossterm_parse.specs.Transitions.{Opens}
use Rattle.crossterm_parse.specs.declared.state.State.TheVariants.{Reply}
use Rattle.crossterm_parse.proofs.state.read_replies.Given as goal

-- the bytes before this one were read
abbrev pub invariant-loop-i : goal.invariant-loop-i
invariant-loop-i l = Opens (Reply l.initial.number) (Reply l.number) (take l.i l.bytes)
