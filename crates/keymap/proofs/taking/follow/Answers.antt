use Rattle.std.proofs.Common.{[], ◌∷◌, ◌++◌, refl, ap, ◌∙◌}
use Rattle.crossterm_types.specs.Seen.{seen_event}
use Rattle.keymap.specs.Outcomes.{Event}
use Rattle.keymap.specs.inside.Giving.{state_of}
use Rattle.keymap.proofs.Steps.{followed}
use Rattle.keymap.proofs.taking.follow.Goals as goal

pub returns-clause-followed : goal.returns-clause-followed
returns-clause-followed g c passes =
    followed (state_of c.args.keymap.now passes c.args.keys.now c.args.waiting.now.items) (state_of c.args.keymap.now passes c.give_all.new.keys c.pass_on.new.waiting.items) (seen_event c.args.event) refl refl
    (c.pass_on.ensures.event ∙ ap (λ l. l ++ Event (seen_event c.args.event) ∷ []) c.give_all.ensures.waiting)
    c.give_all.ensures.keys
