use Rattle.std.proofs.Common.{◌≡◌, ◌-◌, ◌++◌, drop, length}
use Rattle.crossterm_flags.specs.Bits.{contained, unless_empty}
use Rattle.crossterm_flags.proofs.iter.FlagIterIterator.next.Given as goal

-- what was passed over is no part of the set
abbrev pub invariant-loop-self : goal.invariant-loop-self
invariant-loop-self g l = contained (drop l.self-inside.place g.F.Flags.table) (g.F.Flags.set_of l.self-inside.set) ++ unless_empty (g.F.Flags.set_of l.self-inside.unnamed) ≡ l.fn.self

abbrev pub decreases-loop-self : goal.decreases-loop-self
decreases-loop-self g l = length g.F.Flags.table - l.self-inside.place
