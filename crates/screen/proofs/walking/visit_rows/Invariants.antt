-- The cells of the rows so far are the new ones, and the others are as they were. The tokens that led there were put.
use Rattle.std.proofs.Common.{◌≡◌, ◌*◌, ◌++◌, ◌<◌, List, drop, take}
use Rattle.crossterm_command.specs.Tokens.{Token}
use Rattle.screen.specs.Blocks.{cut_rows}
use Rattle.screen.specs.inside.Blocks.{PutsTokens, Walks}
use Rattle.screen.proofs.walking.visit_rows.Given as goal

abbrev pub invariant-loop-row : goal.invariant-loop-row
invariant-loop-row g l =
    (l.before ≡ take (l.width * l.row) l.after ++ drop (l.width * l.row) l.fn.before)
    × (l.place.0 < l.width)
    × (ts : List Token)
    × Walks l.width l.fn.pen.colors (cut_rows l.width l.height l.after) (cut_rows l.width l.height l.fn.before) l.fn.place ts (cut_rows l.width l.height l.before) l.place
    × PutsTokens ts (g.W.Write.contents l.fn.writer) l.fn.pen (g.W.Write.contents l.writer) l.pen
