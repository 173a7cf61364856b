use Rattle.std.specs.IoError.{error_kind}
use Rattle.crossterm_read.specs.inside.Replies.{kept}
use Rattle.crossterm_read.proofs.Querying.{attributes_none, attributes_taken}
use Rattle.crossterm_read.proofs.read.reader.InternalEventReader.attributes_after.Goals as goal

pub returns-in-Ok-clause-step : goal.returns-in-Ok-clause-step
returns-in-Ok-clause-step g c flags = let e = c.in-Ok.ensures.step in (e.0, e.1, attributes_taken (g.P.Patience.lasted c.args.patience.now (g.C.Clock.latest c.query_while.new.clock)) e.0 c.args.self.now.store c.query_while.new.self.store flags (kept c.in-Ok.taken) e.2)

pub returns-in-Err-clause-step : goal.returns-in-Err-clause-step
returns-in-Err-clause-step g c flags = let e = c.in-Err.ensures.step in (e.0, e.1, attributes_none (g.P.Patience.lasted c.args.patience.now (g.C.Clock.latest c.query_while.new.clock)) e.0 c.args.self.now.store c.query_while.new.self.store flags _ e.2)
