use Rattle.crossterm_command.proofs.Taking.{unsent_at}
use Rattle.crossterm_command.proofs.queueable.execute_on.Goals as goal

pub returns-clause-err : goal.returns-clause-err
returns-clause-err g c = unsent_at c.in-Err.fault _ _ _ _ _ c.from.ensures c.in-Err.ensures.err
