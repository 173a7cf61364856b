use Rattle.std.proofs.Common.{◌≡◌}
use Rattle.std.specs.Str.{chars}
use Rattle.line_editor.specs.States.{last_with}
use Rattle.line_editor.proofs.recent.RecentLines.find_newer.Given as goal

abbrev pub invariant-loop-number : goal.invariant-loop-number
invariant-loop-number g l =
    last_with (chars l.front) (chars l.shown) l.count l.self ≡ last_with (chars l.front) (chars l.shown) l.number l.self

abbrev pub decreases-loop-number : goal.decreases-loop-number
decreases-loop-number g l = l.number
