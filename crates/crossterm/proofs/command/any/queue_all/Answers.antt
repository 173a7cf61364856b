use Rattle.crossterm_command.proofs.Taking.{stopped_at}
use Rattle.crossterm.proofs.command.any.queue_all.Goals as goal

pub returns-in-Err-clause-err : goal.returns-in-Err-clause-err
returns-in-Err-clause-err g c other = (stopped_at _ _ _ _ _ _ c.from.ensures c.in-Err.ensures.err).front other
