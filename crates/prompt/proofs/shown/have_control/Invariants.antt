-- The parts so far have none.
use Rattle.std.proofs.Common.{◌≡◌, drop, map}
use Rattle.prompt.specs.Shown as spec
use Rattle.prompt.specs.Shown.{run_of, runs_of}
use Rattle.prompt.proofs.shown.have_control.Given as goal

abbrev pub invariant-loop-part : goal.invariant-loop-part
invariant-loop-part l = spec.have_control (runs_of l.text l.parts) ≡ spec.have_control (map run_of (drop l.part-index l.parts))
