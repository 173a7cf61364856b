use Rattle.std.proofs.Common.{length}
use Rattle.test_input.proofs.plain.+ends_the_mouse.Given as goal

abbrev pub decreases-ends_the_mouse : goal.decreases-ends_the_mouse
decreases-ends_the_mouse l = length l.bytes.now
