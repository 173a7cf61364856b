use Rattle.std.proofs.Common.{inr, ap, ◌∙◌}
use Rattle.crossterm_read.specs.Device.{Idle}
use Rattle.recorder.specs.Reads as spec
use Rattle.recorder.specs.inside.Words.{words_of}
use Rattle.recorder.proofs.Cutting.{parts_there}
use Rattle.recorder.proofs.Wording.{alone_words}
use Rattle.recorder.proofs.reading.read_idle.Goals as goal

pub returns-in-Some : goal.returns-in-Some
returns-in-Some g c = inr (ap (λ w. spec.read_alone Idle (words_of w)) c.in-Some.is ∙ alone_words Idle (spec.parts 32 c.in-Some.field-0.now) (parts_there 32 c.in-Some.field-0.now))
