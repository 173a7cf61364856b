use Rattle.std.proofs.Common.{true}
use Rattle.crossterm_command.proofs.Taking.{at_ok}
use Rattle.prompt.specs.Frames.{area_of}
use Rattle.prompt.specs.Written.{look_of}
use Rattle.prompt.proofs.Sending.{at_err, err_with, ok_with}
use Rattle.prompt.proofs.Showing.{rings, rings_front, shows, shows_front}
use Rattle.prompt.proofs.frames.show_and_ring.Goals as goal

pub returns-in-Ok-clause-shows : goal.returns-in-Ok-clause-shows
returns-in-Ok-clause-shows g c given w es from tabs h =
    let look = look_of given (g.H.Helper.hints c.args.prompt.now.helper.now) (g.H.Helper.candidates c.args.prompt.now.helper.now) c.args.prompt.now in
    let a = area_of c.args.rows.now in
    let b = area_of c.show.new.rows in
    let mid = g.W.Write.contents c.show.new.out in
    let drawn = shows look w es c.args.editor.now a b true c.args.lists from (g.W.Write.contents c.args.out.now) mid tabs h (at_ok c.in-Ok.is c.show.ensures.shows) in
    ok_with c.ring.result (λ d. rings look w es c.args.editor.now b from mid (g.W.Write.contents c.ring.new.out) drawn d) c.ring.ensures.ok

pub returns-in-Ok-clause-stops : goal.returns-in-Ok-clause-stops
returns-in-Ok-clause-stops g c given w es from tabs h =
    let look = look_of given (g.H.Helper.hints c.args.prompt.now.helper.now) (g.H.Helper.candidates c.args.prompt.now.helper.now) c.args.prompt.now in
    let a = area_of c.args.rows.now in
    let b = area_of c.show.new.rows in
    let mid = g.W.Write.contents c.show.new.out in
    let drawn = shows look w es c.args.editor.now a b true c.args.lists from (g.W.Write.contents c.args.out.now) mid tabs h (at_ok c.in-Ok.is c.show.ensures.shows) in
    err_with c.ring.result (λ d. rings_front look w es c.args.editor.now b from mid (g.W.Write.contents c.ring.new.out) drawn d) c.ring.ensures.err

pub returns-in-Err-clause-stops : goal.returns-in-Err-clause-stops
returns-in-Err-clause-stops g c given w es from tabs h =
    let look = look_of given (g.H.Helper.hints c.args.prompt.now.helper.now) (g.H.Helper.candidates c.args.prompt.now.helper.now) c.args.prompt.now in
    let a = area_of c.args.rows.now in
    shows_front look w es c.args.editor.now a true c.args.lists from (g.W.Write.contents c.args.out.now) (g.W.Write.contents c.show.new.out) tabs h (at_err c.in-Err.is c.show.ensures.stops)
