use Rattle.crossterm_read.proofs.Numbers.{orderly_takes}
use Rattle.crossterm_read.proofs.read.reader.InternalEventReader.take_numbered.Goals as goal

pub invariant_of-self : goal.invariant_of-self
invariant_of-self g c = orderly_takes (g.F.Filter.admits c.args.filter.now) c.self.inside.held.store c.take.new.self.store _ c.self.invariant c.take.ensures.step
