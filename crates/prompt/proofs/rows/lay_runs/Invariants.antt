-- The parts that are left, behind what is laid, are laid as all of the prompt behind what was there.
use Rattle.std.proofs.Common.{◌≡◌, drop, map}
use Rattle.prompt.specs.Shown.{run_of, runs_of}
use Rattle.prompt.specs.Wrapping.{with_runs}
use Rattle.prompt.proofs.rows.lay_runs.Given as goal

abbrev pub invariant-loop-part : goal.invariant-loop-part
invariant-loop-part l = record {
  width : l.paragraph.width ≡ l.fn.paragraph.width;
  left : with_runs l.fn.paragraph.width l.paragraph.cells (map run_of (drop l.part-index l.parts)) ≡ with_runs l.fn.paragraph.width l.fn.paragraph.cells (runs_of l.text l.parts);
}
