use Rattle.std.proofs.Common.{length}
use Rattle.probe_modes.proofs.keys.print_waiting.Given as goal

-- each outcome leaves fewer that wait
abbrev pub decreases-loop-outcome : goal.decreases-loop-outcome
decreases-loop-outcome g l = length l.matcher.matching.waiting
