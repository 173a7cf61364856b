-- No line begins between the place that is looked at and the one from which the search came.
use Rattle.std.proofs.Common.{◌≡◌, ◌≤◌}
use Rattle.prompt.specs.Histories.{line_start}
use Rattle.prompt.proofs.appending.line_start.Given as goal

abbrev pub invariant-loop-at : goal.invariant-loop-at
invariant-loop-at l = (l.at ≤ l.to) × (line_start l.bytes l.to ≡ line_start l.bytes l.at)

abbrev pub decreases-loop-at : goal.decreases-loop-at
decreases-loop-at l = l.at
