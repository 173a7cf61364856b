use Rattle.std.proofs.Common.{ap, sym, is_some, ◌∙◌}
use Rattle.crossterm_command.proofs.Taking.{at_ok}
use Rattle.prompt.specs.Completing.{given_by}
use Rattle.prompt.proofs.Sending.{at_if_err}
use Rattle.prompt.proofs.asking.take_next.Goals as goal

pub returns-in-None-clause-written : goal.returns-in-None-clause-written
returns-in-None-clause-written g c v w out may s = c.take_turn.ensures.written v w c.args.lists out may s

pub returns-in-Ok-clause-written : goal.returns-in-Ok-clause-written
returns-in-Ok-clause-written g c v w out may s =
    let given = given_by (g.H.Helper.completes c.args.prompt.now.helper.now) in
    let waited = at_ok c.in-Ok.is (c.wait_printing.ensures.shown given v w c.args.tabbed out (ap is_some c.in-Some.is) s) in
    c.take_turn-in-Ok.ensures.written v w c.args.lists out (λ is. may (sym c.wait_printing.ensures.asked ∙ is)) waited

pub returns-in-Err-clause-written : goal.returns-in-Err-clause-written
returns-in-Err-clause-written g c v w out may s =
    let given = given_by (g.H.Helper.completes c.args.prompt.now.helper.now) in
    at_if_err _ c.in-Err.is (c.wait_printing.ensures.cut given v w c.args.tabbed out (ap is_some c.in-Some.is) s)
