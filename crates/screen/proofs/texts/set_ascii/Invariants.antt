-- The letters before the place are set.
use Rattle.std.proofs.Common.{◌≡◌, ◌+◌, ◌++◌, drop, map, take}
use Rattle.screen.specs.inside.Ascii.{bare_cell}
use Rattle.screen.proofs.texts.set_ascii.Given as goal

abbrev pub invariant-loop-k : goal.invariant-loop-k
invariant-loop-k l = l.cells ≡ take l.at l.fn.cells ++ (map (bare_cell l.style) (take l.k l.letters) ++ drop (l.at + l.k) l.fn.cells)
