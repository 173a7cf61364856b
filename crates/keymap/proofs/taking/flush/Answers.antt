use Rattle.std.proofs.Common.{refl}
use Rattle.keymap.specs.inside.Giving.{state_of}
use Rattle.keymap.proofs.Giving.{flushed}
use Rattle.keymap.proofs.taking.flush.Goals as goal

pub returns-clause-flushed : goal.returns-clause-flushed
returns-clause-flushed g c passes =
    flushed (state_of c.args.keymap.now passes c.args.keys.now c.args.waiting.now.items) (state_of c.args.keymap.now passes c.give_all.new.keys c.give_all.new.waiting.items) refl refl c.give_all.ensures.waiting c.give_all.ensures.keys
