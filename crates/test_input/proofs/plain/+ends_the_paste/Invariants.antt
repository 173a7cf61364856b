use Rattle.std.proofs.Common.{length}
use Rattle.test_input.proofs.plain.+ends_the_paste.Given as goal

abbrev pub decreases-ends_the_paste : goal.decreases-ends_the_paste
decreases-ends_the_paste l = length l.bytes.now
