use Rattle.std.proofs.Common.{length}
use Rattle.test_input.proofs.plain.+ends_number.Given as goal

abbrev pub decreases-ends_number : goal.decreases-ends_number
decreases-ends_number l = length l.bytes.now
