use Rattle.std.proofs.Common.{false, subst, sym}
use Rattle.crossterm_command.proofs.Taking.{at_ok}
use Rattle.prompt.specs.Frames.{Area, area_of}
use Rattle.prompt.specs.Written.{Due, HasWritten, look_of}
use Rattle.prompt.proofs.Sending.{at_err, err_with, ok_with}
use Rattle.prompt.proofs.Showing.{prints, prints_front, shows, shows_front}
use Rattle.prompt.proofs.frames.show_below.Goals as goal

pub returns-in-Err-clause-stops : goal.returns-in-Err-clause-stops
returns-in-Err-clause-stops g c given w es from may tabs h =
    let look = look_of given (g.H.Helper.hints c.args.prompt.now.helper.now) (g.H.Helper.candidates c.args.prompt.now.helper.now) c.args.prompt.now in
    let part = at_err c.in-Err.is c.print_instead.ensures.err in
    prints_front look w es c.args.editor.now (area_of c.args.rows.now) part.0 from (g.W.Write.contents c.args.out.now) (g.W.Write.contents c.print_instead.new.out) may h part.1

pub returns-in-Ok-clause-shows : goal.returns-in-Ok-clause-shows
returns-in-Ok-clause-shows g c given w es from may tabs h =
    let look = look_of given (g.H.Helper.hints c.args.prompt.now.helper.now) (g.H.Helper.candidates c.args.prompt.now.helper.now) c.args.prompt.now in
    let a = area_of c.args.rows.now in
    let b = area_of c.print_instead.new.rows in
    let mid = g.W.Write.contents c.print_instead.new.out in
    let text = at_ok c.in-Ok.is c.print_instead.ensures.ok in
    let printed = prints look w es c.args.editor.now a c.print_instead.new.rows.block.room text.0 from (g.W.Write.contents c.args.out.now) mid may h text.1 in
    let due = subst (λ (x : Area). HasWritten look w es c.args.editor.now (Due x false) from mid) (sym (at_ok c.in-Ok.is c.print_instead.ensures.area)) printed in
    ok_with c.show.result (λ d. shows look w es c.args.editor.now b (area_of c.show.new.rows) false c.args.listed from mid (g.W.Write.contents c.show.new.out) tabs due d) c.show.ensures.shows

pub returns-in-Ok-clause-stops : goal.returns-in-Ok-clause-stops
returns-in-Ok-clause-stops g c given w es from may tabs h =
    let look = look_of given (g.H.Helper.hints c.args.prompt.now.helper.now) (g.H.Helper.candidates c.args.prompt.now.helper.now) c.args.prompt.now in
    let a = area_of c.args.rows.now in
    let b = area_of c.print_instead.new.rows in
    let mid = g.W.Write.contents c.print_instead.new.out in
    let text = at_ok c.in-Ok.is c.print_instead.ensures.ok in
    let printed = prints look w es c.args.editor.now a c.print_instead.new.rows.block.room text.0 from (g.W.Write.contents c.args.out.now) mid may h text.1 in
    let due = subst (λ (x : Area). HasWritten look w es c.args.editor.now (Due x false) from mid) (sym (at_ok c.in-Ok.is c.print_instead.ensures.area)) printed in
    err_with c.show.result (λ d. shows_front look w es c.args.editor.now b false c.args.listed from mid (g.W.Write.contents c.show.new.out) tabs due d) c.show.ensures.stops
