use Rattle.std.proofs.Common.{rules, inr}
use Rattle.crossterm.proofs.command.synchronized.AnySynchronizedUpdate.sync_update.Goals as goal

pub returns-in-Err-end_update-clause-err : goal.returns-in-Err-end_update-clause-err
returns-in-Err-end_update-clause-err g c =
    inr (c.write_text.new.writer, c.operations-outcome.result, _, c.in-Ok.ensures.ok, search rules, c.in-Err-end_update.ensures.err)
