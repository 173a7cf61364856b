-- The columns of the characters so far.
use Rattle.std.proofs.Common.{◌≡◌, chars, length, take}
use Rattle.prompt.specs.Pictures.{most_columns}
use Rattle.prompt.proofs.prompts.most_columns.Given as goal

abbrev pub invariant-loop-c : goal.invariant-loop-c
invariant-loop-c l = l.columns ≡ most_columns (take (length l.yielded) (chars l.text))
