use Rattle.std.proofs.Common.{length}
use Rattle.test_input.proofs.plain.+ends_the_reply.Given as goal

abbrev pub decreases-ends_the_reply : goal.decreases-ends_the_reply
decreases-ends_the_reply l = length l.bytes.now
