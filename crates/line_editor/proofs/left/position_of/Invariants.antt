use Rattle.std.proofs.Common.{◌≡◌, drop}
use Rattle.line_editor.specs.inside.Lines.{position_in}
use Rattle.line_editor.proofs.left.position_of.Given as goal

abbrev pub invariant-loop-at : goal.invariant-loop-at
invariant-loop-at g l = position_in l.place 0 l.left.items ≡ position_in l.place l.at (drop l.at l.left.items)
