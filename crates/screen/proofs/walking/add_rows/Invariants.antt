-- As many rows were added.
use Rattle.screen.specs.Blocks.{more_rows}
use Rattle.screen.specs.inside.Blocks.{PutsTokens}
use Rattle.screen.proofs.walking.add_rows.Given as goal

abbrev pub invariant-loop : goal.invariant-loop
invariant-loop g l = PutsTokens (more_rows l.counter) (g.W.Write.contents l.fn.writer) l.fn.pen (g.W.Write.contents l.writer) l.pen
