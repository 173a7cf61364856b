use Rattle.std.proofs.Common.{ap, [], subst, sym, ◌∙◌}
use Rattle.crossterm_read.specs.PassViews.{knows}
use Rattle.prompt.specs.Asking.{stopped, unread}
use Rattle.prompt.specs.Completing.{given_by}
use Rattle.prompt.proofs.Turning.{not_yet}
use Rattle.std.specs.IoError.{error_kind}
use Rattle.crossterm_read.specs.History.{Known}
use Rattle.prompt.specs.Asking.{answer_seen}
use Rattle.prompt.specs.Written.{LineEndsShown, StopsShown, look_of}
use Rattle.prompt.proofs.Sending.{if_err_with, if_ok_with}
use Rattle.prompt.proofs.Showing.{not_begun, stops_shown}
use Rattle.prompt.proofs.Showing as showing
use Rattle.prompt.proofs.asking.Prompt.read_line.Goals as goal

pub returns-then-have_control-clause-err : goal.returns-then-have_control-clause-err
returns-then-have_control-clause-err g c = stopped unread

pub returns-in-Err-clause-err : goal.returns-in-Err-clause-err
returns-in-Err-clause-err g c =
    stopped (not_yet g.S.EventSource.drawn g.S.EventSource.asked (given_by (g.H.Helper.completes c.args.self.now.helper.now)) (knows c.args.tty.now.pass) c.args.editor.now (knows c.begin.new.tty.pass)
    (ap knows c.begin.ensures.pass))

pub returns-then-have_control-clause-cut : goal.returns-then-have_control-clause-cut
returns-then-have_control-clause-cut g c =
    let look = look_of (given_by (g.H.Helper.completes c.args.self.now.helper.now)) (g.H.Helper.hints c.args.self.now.helper.now) (g.H.Helper.candidates c.args.self.now.helper.now) c.args.self.now in
    not_begun g.S.EventSource.drawn g.S.EventSource.asked look (knows c.args.tty.now.pass) c.args.editor.now (error_kind c.from.result) (g.W.Write.contents c.args.tty.now.out)

pub returns-in-Err-clause-cut : goal.returns-in-Err-clause-cut
returns-in-Err-clause-cut g c =
    let given = given_by (g.H.Helper.completes c.args.self.now.helper.now) in
    let look = (look_of (given_by (g.H.Helper.completes c.args.self.now.helper.now)) (g.H.Helper.hints c.args.self.now.helper.now) (g.H.Helper.candidates c.args.self.now.helper.now) c.args.self.now) in
    stops_shown g.S.EventSource.drawn g.S.EventSource.asked look (knows c.args.tty.now.pass) c.args.editor.now (error_kind c.in-Err.error) (knows c.begin.new.tty.pass) c.args.editor.now []
    (g.W.Write.contents c.args.tty.now.out) (g.W.Write.contents c.begin.new.tty.out)
    (showing.not_yet g.S.EventSource.drawn g.S.EventSource.asked look (knows c.args.tty.now.pass) c.args.editor.now (knows c.begin.new.tty.pass) (ap knows c.begin.ensures.pass)) (c.in-Err.ensures.stops given)

pub returns-in-Ok-clause-written : goal.returns-in-Ok-clause-written
returns-in-Ok-clause-written g c =
    let given = given_by (g.H.Helper.completes c.args.self.now.helper.now) in
    let look = (look_of (given_by (g.H.Helper.completes c.args.self.now.helper.now)) (g.H.Helper.hints c.args.self.now.helper.now) (g.H.Helper.candidates c.args.self.now.helper.now) c.args.self.now) in
    let out = g.W.Write.contents c.args.tty.now.out in
    if_ok_with c.go_on.result (λ read ends. subst (λ (v : Known g.row.S.Denot). LineEndsShown g.S.EventSource.drawn g.S.EventSource.asked look v c.args.editor.now (answer_seen read) (knows c.go_on.new.tty.pass) c.go_on.new.editor out
    (g.W.Write.contents c.go_on.new.tty.out)) (ap knows c.begin.ensures.pass) (ends out (λ is. sym c.in-Ok.ensures.asks ∙ is) (c.in-Ok.ensures.shows given))) c.go_on.ensures.written

pub returns-in-Ok-clause-cut : goal.returns-in-Ok-clause-cut
returns-in-Ok-clause-cut g c =
    let given = given_by (g.H.Helper.completes c.args.self.now.helper.now) in
    let look = (look_of (given_by (g.H.Helper.completes c.args.self.now.helper.now)) (g.H.Helper.hints c.args.self.now.helper.now) (g.H.Helper.candidates c.args.self.now.helper.now) c.args.self.now) in
    let out = g.W.Write.contents c.args.tty.now.out in
    if_err_with c.go_on.result (λ error stops. subst (λ (v : Known g.row.S.Denot). StopsShown g.S.EventSource.drawn g.S.EventSource.asked look v c.args.editor.now (error_kind error) (knows c.go_on.new.tty.pass) c.go_on.new.editor out
    (g.W.Write.contents c.go_on.new.tty.out)) (ap knows c.begin.ensures.pass) (stops out (λ is. sym c.in-Ok.ensures.asks ∙ is) (c.in-Ok.ensures.shows given))) c.go_on.ensures.cut
