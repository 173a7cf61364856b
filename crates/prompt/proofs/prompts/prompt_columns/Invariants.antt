-- The columns of the parts so far.
use Rattle.std.proofs.Common.{◌≡◌, map, take}
use Rattle.prompt.specs.Pictures.{prompt_columns}
use Rattle.prompt.specs.Shown.{run_of}
use Rattle.prompt.proofs.prompts.prompt_columns.Given as goal

abbrev pub invariant-loop-part : goal.invariant-loop-part
invariant-loop-part l = l.columns ≡ prompt_columns (map run_of (take l.part-index l.parts))
