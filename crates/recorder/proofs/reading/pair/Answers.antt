use Rattle.std.proofs.Common.{◌∷◌, ap, ◌∙◌}
use Rattle.recorder.specs.Reads as spec
use Rattle.recorder.specs.inside.Words.{words_of}
use Rattle.recorder.proofs.Cutting.{parts_there}
use Rattle.recorder.proofs.Wording.{pair_many}
use Rattle.recorder.proofs.reading.pair.Goals as goal

pub returns-in-Some-cut_at-2 : goal.returns-in-Some-cut_at-2
returns-in-Some-cut_at-2 c =
    ap (λ w. spec.pair (words_of w)) c.in-Some.is
    ∙ ap spec.pair (c.in-Some-cut_at.ensures.0 ∙ ap (λ l. c.in-Some-cut_at.first.now ∷ l) c.in-Some-cut_at-2.ensures.0)
    ∙ pair_many c.in-Some-cut_at.first.now c.in-Some-cut_at-2.field-0.0.now (spec.parts 32 c.in-Some-cut_at-2.field-0.1.now) (parts_there 32 c.in-Some-cut_at-2.field-0.1.now)
