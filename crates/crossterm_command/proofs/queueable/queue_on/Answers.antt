use Rattle.crossterm_command.proofs.Taking.{stopped_at}
use Rattle.crossterm_command.proofs.queueable.queue_on.Goals as goal

pub returns-clause-err : goal.returns-clause-err
returns-clause-err g c = stopped_at c.in-Err.fault _ _ _ _ _ c.from.ensures c.in-Err.ensures.err
