use Rattle.std.proofs.Common.{◌∙◌, refl}
use Rattle.crossterm_types.specs.Seen.{seen}
use Rattle.crossterm_read.specs.inside.Kinds.{has_class}
use Rattle.crossterm_read.specs.inside.Queues.{queue_of}
use Rattle.crossterm_read.proofs.Joining.{classes_say, front_represents, fronts, fronts_are, no_front}
use Rattle.crossterm_read.proofs.read.held.queues.Queues.place.Goals as goal

pub returns-in-Some-earliest : goal.returns-in-Some-earliest
returns-in-Some-earliest g c =
    front_represents (has_class c.in-Some.classes) (λ m. g.F.Filter.admits c.args.filter.now (seen m.event)) (λ m. c.in-Some.ensures (seen m.event) ∙ classes_say c.in-Some.classes m.event)
    (queue_of c.args.self.now) fronts c.requires fronts_are c.in-Some-earliest.front _ c.in-Some-earliest.ensures refl refl

pub returns-in-None-earliest : goal.returns-in-None-earliest
returns-in-None-earliest g c =
    no_front (has_class c.in-Some.classes) (λ m. g.F.Filter.admits c.args.filter.now (seen m.event)) (λ m. c.in-Some.ensures (seen m.event) ∙ classes_say c.in-Some.classes m.event)
    (queue_of c.args.self.now) fronts c.requires fronts_are c.in-None-earliest.ensures
