use Rattle.prompt.proofs.Appended.{none_tried}
use Rattle.prompt.proofs.Sending.{err_with, ok_with}
use Rattle.prompt.proofs.appending.append_pending.Goals as goal

pub returns-in-Err-clause-err : goal.returns-in-Err-clause-err
returns-in-Err-clause-err g c = (_, c.end_last.ensures, none_tried _ c.args.pending.now.items)

pub returns-clause-ok : goal.returns-clause-ok
returns-clause-ok g c = ok_with c.write_pending.result (λ takes. (g.R.File.Write.contents c.end_last.new.file, c.end_last.ensures, takes)) c.write_pending.ensures.ok

pub returns-clause-err : goal.returns-clause-err
returns-clause-err g c = err_with c.write_pending.result (λ takes. (g.R.File.Write.contents c.end_last.new.file, c.end_last.ensures, takes)) c.write_pending.ensures.err
