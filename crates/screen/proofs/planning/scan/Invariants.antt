-- The cells before the place are the new ones, and the others are as they were. The strokes that led there were put. At the place they differ.
use Rattle.std.proofs.Common.{◌≢◌, ◌-◌, ◌<◌, ◌≤◌, List, get_or, length}
use Rattle.screen.specs.Cells.{blank}
use Rattle.screen.specs.declared.strokes.Stroke.{Stroke}
use Rattle.screen.specs.inside.Pens.{PutsStrokes}
use Rattle.screen.specs.inside.Strokes.{AreFitting}
use Rattle.screen.proofs.Skips.{AreCopied, Stage}
use Rattle.screen.proofs.planning.scan.Given as goal

abbrev pub invariant-loop-at : goal.invariant-loop-at
invariant-loop-at g l =
    (strokes : List Stroke)
    × Stage l.fn.start l.fn.size.0 l.fn.size.1 l.fn.before l.fn.after strokes l.cursor l.style l.at
    × AreFitting l.fn.start strokes
    × PutsStrokes strokes (g.W.Write.contents l.fn.writer) l.fn.pen (g.W.Write.contents l.writer) l.pen
    × AreCopied l.fn.before l.fn.after l.before l.at
    × (l.at ≤ length l.fn.after)
    × (l.at < length l.fn.after → get_or l.before l.at blank ≢ get_or l.fn.after l.at blank)

abbrev pub decreases-loop-at : goal.decreases-loop-at
decreases-loop-at g l = length l.fn.after - l.at
