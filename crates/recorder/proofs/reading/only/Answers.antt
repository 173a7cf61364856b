use Rattle.std.proofs.Common.{ap, ◌∙◌}
use Rattle.recorder.specs.Reads as spec
use Rattle.recorder.specs.inside.Words.{words_of}
use Rattle.recorder.proofs.Cutting.{parts_there}
use Rattle.recorder.proofs.Wording.{only_many}
use Rattle.recorder.proofs.reading.only.Goals as goal

pub returns-in-Some-cut_at : goal.returns-in-Some-cut_at
returns-in-Some-cut_at c = ap (λ w. spec.only (words_of w)) c.in-Some.is ∙ ap spec.only c.in-Some-cut_at.ensures.0 ∙ only_many c.in-Some-cut_at.field-0.0.now (spec.parts 32 c.in-Some-cut_at.field-0.1.now) (parts_there 32 c.in-Some-cut_at.field-0.1.now)
