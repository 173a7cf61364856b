use Rattle.own_terminal.proofs.Ending.{offered_kept}
use Rattle.own_terminal.proofs.feature.switch_off_flushed.Goals as goal

pub returns-clause-offered : goal.returns-clause-offered
returns-clause-offered g c = offered_kept c.args.features.now.items (g.W.Write.contents c.args.out.now) (g.W.Write.contents c.switch_off-off.new.out) (g.W.Write.contents c.flush-flushed.new.self)
    c.switch_off-off.ensures.offered c.flush-flushed.ensures.bytes
