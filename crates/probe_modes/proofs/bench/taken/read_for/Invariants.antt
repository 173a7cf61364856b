use Rattle.crossterm_read.specs.Shared.{IsPassOf}
use Rattle.probe_modes.proofs.bench.taken.read_for.Given as goal

-- the pass stays one of the reader's
abbrev pub invariant-loop-i : goal.invariant-loop-i
invariant-loop-i g l = IsPassOf l.shared l.pass
