use Rattle.std.proofs.Common.{◌≡◌, drop}
use Rattle.std.specs.Str.{chars}
use Rattle.line_editor.specs.States.{first_with}
use Rattle.line_editor.proofs.recent.RecentLines.find.Given as goal

abbrev pub invariant-loop-at : goal.invariant-loop-at
invariant-loop-at g l =
    first_with (chars l.front) (chars l.shown) l.from (drop l.from l.self) ≡ first_with (chars l.front) (chars l.shown) l.at (drop l.at l.self)
