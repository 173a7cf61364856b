use Rattle.std.proofs.Common.{inr, sym, ap, ◌∙◌}
use Rattle.recorder.specs.Reads as spec
use Rattle.recorder.specs.inside.Words.{words_of}
use Rattle.recorder.proofs.Cutting.{parts_there}
use Rattle.recorder.proofs.Wording.{fault_words}
use Rattle.recorder.proofs.reading.read_fault.Goals as goal

pub returns-in-None-only : goal.returns-in-None-only
returns-in-None-only g c =
    inr (ap (λ w. spec.read_fault (words_of w)) c.in-Some.is ∙ fault_words (spec.parts 32 c.in-Some.field-0.now) (parts_there 32 c.in-Some.field-0.now)
    ∙ ap (λ w. spec.read_named (spec.only (words_of w))) (sym c.in-Some.is) ∙ ap spec.read_named c.in-None-only.ensures)

pub returns-in-Some-kind_named : goal.returns-in-Some-kind_named
returns-in-Some-kind_named g c =
    ap (λ w. spec.read_fault (words_of w)) c.in-Some.is ∙ fault_words (spec.parts 32 c.in-Some.field-0.now) (parts_there 32 c.in-Some.field-0.now)
    ∙ ap (λ w. spec.read_named (spec.only (words_of w))) (sym c.in-Some.is) ∙ ap spec.read_named c.in-Some-only.ensures
    ∙ ap spec.read_kind (sym c.in-Some-kind_named.ensures)
