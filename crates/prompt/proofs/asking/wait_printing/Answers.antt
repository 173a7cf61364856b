use Rattle.std.proofs.Common.{ℕ, List, Option, ap, subst, sym, ◌∙◌}
use Rattle.std.specs.IoError.{error_kind}
use Rattle.crossterm_read.specs.PassViews.{knows}
use Rattle.crossterm_command.proofs.Taking.{at_ok}
use Rattle.prompt.specs.Asking.{stopped, waited}
use Rattle.prompt.specs.Frames.{area_of}
use Rattle.prompt.specs.Written.{GoesOnShown, look_of}
use Rattle.prompt.proofs.Sending.{at_err}
use Rattle.prompt.proofs.Showing.{goes_cut, goes_stopped, goes_written, waits_shown}
use Rattle.prompt.proofs.Turning.{waits}
use Rattle.prompt.proofs.asking.wait_printing.Goals as goal

pub returns-in-Err-clause-cut : goal.returns-in-Err-clause-cut
returns-in-Err-clause-cut g c given v w tab out may s =
    let look = look_of given (g.H.Helper.hints c.args.prompt.now.helper.now) (g.H.Helper.candidates c.args.prompt.now.helper.now) c.args.prompt.now in
    goes_cut g.S.EventSource.drawn g.S.EventSource.asked look v w (knows c.loop.tty.pass) c.args.editor.now (area_of c.loop.rows) tab c.args.lists (error_kind c.in-Err.error) out
    (g.W.Write.contents c.loop.tty.out) (g.W.Write.contents c.print_next.new.out) (c.loop.invariant.shown given v w tab out may s)
    (λ es listed h. at_err c.in-Err.is (c.print_next.ensures.stops given w es out may listed h))

pub returns-in-Ok-true-clause-leads : goal.returns-in-Ok-true-clause-leads
returns-in-Ok-true-clause-leads g c given v w goes =
    waited (knows c.loop.tty.pass) (knows c.poll.new.self.pass) c.args.editor.now (c.loop.invariant.leads given v w goes)
    (waits g.S.EventSource.drawn g.S.EventSource.asked c.limit_after.result _ _ (knows c.loop.tty.pass) (knows c.poll.new.self.pass) c.poll.result c.poll.ensures.call)

pub returns-in-Err-poll-clause-leads : goal.returns-in-Err-poll-clause-leads
returns-in-Err-poll-clause-leads g c given v w goes =
    waited (knows c.loop.tty.pass) (knows c.poll.new.self.pass) c.args.editor.now (c.loop.invariant.leads given v w goes)
    (waits g.S.EventSource.drawn g.S.EventSource.asked c.limit_after.result _ _ (knows c.loop.tty.pass) (knows c.poll.new.self.pass) c.poll.result c.poll.ensures.call)

pub returns-in-Ok-true-clause-shown : goal.returns-in-Ok-true-clause-shown
returns-in-Ok-true-clause-shown g c given v w tab out may s =
    let look = look_of given (g.H.Helper.hints c.args.prompt.now.helper.now) (g.H.Helper.candidates c.args.prompt.now.helper.now) c.args.prompt.now in
    let p = knows c.loop.tty.pass in
    let q = knows c.poll.new.self.pass in
    let k = c.args.editor.now in
    let b = area_of c.print_next.new.rows in
    let mid = g.W.Write.contents c.print_next.new.out in
    let printed = goes_written g.S.EventSource.drawn g.S.EventSource.asked look v w p k (area_of c.loop.rows) b tab c.args.lists out (g.W.Write.contents c.loop.tty.out) mid
    (c.loop.invariant.shown given v w tab out may s) (λ es listed h. at_ok c.in-Ok.is (c.print_next.ensures.shows given w es out may listed h)) in
    subst (λ (t : Option (List ℕ)). GoesOnShown g.S.EventSource.drawn g.S.EventSource.asked look v w q k b tab c.args.lists out t) (sym (ap g.W.Write.contents c.poll.ensures.others.0))
    (waits_shown g.S.EventSource.drawn g.S.EventSource.asked look v w p q k b tab c.args.lists out mid
    (waits g.S.EventSource.drawn g.S.EventSource.asked c.limit_after.result _ _ p q c.poll.result c.poll.ensures.call) printed)

pub returns-in-Err-poll-clause-cut : goal.returns-in-Err-poll-clause-cut
returns-in-Err-poll-clause-cut g c given v w tab out may s =
    let look = look_of given (g.H.Helper.hints c.args.prompt.now.helper.now) (g.H.Helper.candidates c.args.prompt.now.helper.now) c.args.prompt.now in
    let p = knows c.loop.tty.pass in
    let q = knows c.poll.new.self.pass in
    let k = c.args.editor.now in
    let b = area_of c.print_next.new.rows in
    let mid = g.W.Write.contents c.print_next.new.out in
    let printed = goes_written g.S.EventSource.drawn g.S.EventSource.asked look v w p k (area_of c.loop.rows) b tab c.args.lists out (g.W.Write.contents c.loop.tty.out) mid
    (c.loop.invariant.shown given v w tab out may s) (λ es listed h. at_ok c.in-Ok.is (c.print_next.ensures.shows given w es out may listed h)) in
    goes_stopped g.S.EventSource.drawn g.S.EventSource.asked look v w q k b tab c.args.lists (error_kind c.in-Err-poll.error) out (g.W.Write.contents c.poll.new.self.out)
    (subst (λ (t : Option (List ℕ)). GoesOnShown g.S.EventSource.drawn g.S.EventSource.asked look v w q k b tab c.args.lists out t) (sym (ap g.W.Write.contents c.poll.ensures.others.0))
    (waits_shown g.S.EventSource.drawn g.S.EventSource.asked look v w p q k b tab c.args.lists out mid
    (waits g.S.EventSource.drawn g.S.EventSource.asked c.limit_after.result _ _ p q c.poll.result c.poll.ensures.call) printed))

pub loop-preserved : goal.loop-preserved
loop-preserved g c =
    let p = knows c.loop.tty.pass in
    let q = knows c.poll.new.self.pass in
    let k = c.args.editor.now in
    let b = area_of c.print_next.new.rows in
    let mid = g.W.Write.contents c.print_next.new.out in
    let polled = waits g.S.EventSource.drawn g.S.EventSource.asked c.limit_after.result _ _ p q c.poll.result c.poll.ensures.call in
    record {
      leads = λ given v w goes. waited p q k (c.loop.invariant.leads given v w goes) polled;
      shown = λ given v w tab out may s.
          let look = look_of given (g.H.Helper.hints c.args.prompt.now.helper.now) (g.H.Helper.candidates c.args.prompt.now.helper.now) c.args.prompt.now in
          let printed = goes_written g.S.EventSource.drawn g.S.EventSource.asked look v w p k (area_of c.loop.rows) b tab c.args.lists out (g.W.Write.contents c.loop.tty.out) mid
          (c.loop.invariant.shown given v w tab out may s) (λ es listed h. at_ok c.in-Ok.is (c.print_next.ensures.shows given w es out may listed h)) in
          subst (λ (t : Option (List ℕ)). GoesOnShown g.S.EventSource.drawn g.S.EventSource.asked look v w q k b tab c.args.lists out t) (sym (ap g.W.Write.contents c.poll.ensures.others.0))
          (waits_shown g.S.EventSource.drawn g.S.EventSource.asked look v w p q k b tab c.args.lists out mid polled printed);
      asked = c.print_next.ensures.asked ∙ c.loop.invariant.asked;
      others = (c.poll.ensures.others.1 ∙ c.loop.invariant.others.0, c.poll.ensures.others.2 ∙ c.loop.invariant.others.1);
      can = tt;
      ends = tt;
    }
