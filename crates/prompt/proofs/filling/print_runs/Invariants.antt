-- What is printed, and what is still to be printed.
use Rattle.std.proofs.Common.{◌≡◌, drop, map}
use Rattle.prompt.specs.Pictures.{column_after, printed_runs}
use Rattle.prompt.specs.Shown.{run_of, runs_of}
use Rattle.prompt.proofs.filling.print_runs.Given as goal

abbrev pub invariant-loop-part : goal.invariant-loop-part
invariant-loop-part l = record {
  width : l.buffer.width ≡ l.fn.buffer.width;
  shown : printed_runs l.fn.buffer.width l.fn.buffer 0 (runs_of l.text l.parts) ≡ printed_runs l.fn.buffer.width l.buffer l.column (map run_of (drop l.part-index l.parts));
  behind : column_after l.fn.buffer.width 0 (runs_of l.text l.parts) ≡ column_after l.fn.buffer.width l.column (map run_of (drop l.part-index l.parts));
}
