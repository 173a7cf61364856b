use Rattle.std.proofs.Common.{◌++◌, map, refl, ap, ◌∙◌}
use Rattle.keymap.specs.Bindings.{bound_of}
use Rattle.keymap.specs.Cut.{given, left}
use Rattle.keymap.specs.Outcomes.{outcome_seen}
use Rattle.keymap.specs.inside.Giving.{state_of}
use Rattle.keymap.proofs.Giving.{fed}
use Rattle.keymap.proofs.taking.take_key.Goals as goal

pub returns-clause-fed : goal.returns-clause-fed
returns-clause-fed g c passes =
    let bound = bound_of c.args.keymap.now in
    fed (state_of c.args.keymap.now passes c.args.keys.now c.args.waiting.now.items) (state_of c.args.keymap.now passes c.give_decided.new.keys c.give_decided.new.waiting.items) c.args.key refl refl c.give_decided.ensures.short
    (c.give_decided.ensures.waiting ∙ ap (λ keys. map outcome_seen c.args.waiting.now.items ++ given bound keys) c.push.ensures)
    (c.give_decided.ensures.keys ∙ ap (left bound) c.push.ensures)
