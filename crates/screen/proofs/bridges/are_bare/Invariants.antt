-- The cells so far are bare.
use Rattle.std.proofs.Common.{take}
use Rattle.std.specs.List.{AllByRecursion}
use Rattle.screen.specs.inside.Bridges.{IsBare}
use Rattle.screen.proofs.bridges.are_bare.Given as goal

abbrev pub invariant-loop-cell : goal.invariant-loop-cell
invariant-loop-cell l = AllByRecursion (IsBare l.style) (take l.cell-index l.cells)
