use Rattle.std.proofs.Common.{subst}
use Rattle.crossterm_types.specs.Seen.{seen_event}
use Rattle.keymap.specs.Taking.{TakesBy}
use Rattle.keymap.specs.declared.inside.Way.{Way}
use Rattle.keymap.specs.inside.Giving.{state_of}
use Rattle.keymap.proofs.taking.take_event.Goals as goal

pub returns-in-Feed-clause-taken : goal.returns-in-Feed-clause-taken
returns-in-Feed-clause-taken g c =
    subst (λ (way : Way). TakesBy way (state_of c.args.keymap.now c.args.passes c.args.keys.now c.args.waiting.now.items) (seen_event c.args.event) (state_of c.args.keymap.now c.args.passes c.take_key.new.keys c.take_key.new.waiting.items))
    c.in-Feed.ensures (c.take_key.ensures.fed c.args.passes)

pub returns-in-Follow-clause-taken : goal.returns-in-Follow-clause-taken
returns-in-Follow-clause-taken g c =
    subst (λ (way : Way). TakesBy way (state_of c.args.keymap.now c.args.passes c.args.keys.now c.args.waiting.now.items) (seen_event c.args.event) (state_of c.args.keymap.now c.args.passes c.follow.new.keys c.follow.new.waiting.items))
    c.in-Follow.ensures (c.follow.ensures.followed c.args.passes)
