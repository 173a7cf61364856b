-- The strokes of the cells so far were put.
use Rattle.std.proofs.Common.{take}
use Rattle.screen.specs.inside.Pens.{PutsStrokes}
use Rattle.screen.specs.inside.Strokes.{again_strokes}
use Rattle.screen.proofs.bridges.put_again.Given as goal

abbrev pub invariant-loop-cell : goal.invariant-loop-cell
invariant-loop-cell g l = PutsStrokes (again_strokes (take l.cell-index l.cells)) (g.W.Write.contents l.fn.writer) l.fn.pen (g.W.Write.contents l.writer) l.pen
