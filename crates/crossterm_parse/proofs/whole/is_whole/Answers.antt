-- A byte that introduces nothing ends the sequence.
use Rattle.std.proofs.Common.{◌≡◌, Bool, true, false, IsTrue, not, refl}
use Rattle.crossterm_parse.proofs.whole.is_whole.Goals as goal

false_of : (b : Bool) → IsTrue (not b) → b ≡ false
false_of true h = absurd (cc)
false_of false h = refl

pub returns : goal.returns
returns c whole raw pause = c.introduce.ensures.reads.no (false_of c.introduce.result whole) raw pause
