use Rattle.std.proofs.Common.{◌-◌, ap, false, subst, sym, ◌∙◌}
use Rattle.crossterm_read.specs.PassViews.{knows}
use Rattle.crossterm_command.proofs.Taking.{at_ok}
use Rattle.prompt.specs.Frames.{Area, area_of, resized_area}
use Rattle.prompt.specs.Written.{Due, HasWritten, Resized, look_of}
use Rattle.prompt.proofs.Sending.{at_err, err_with, ok_with}
use Rattle.prompt.proofs.Showing.{all_of, all_queried, erases, erases_front, moved, queried, shows, shows_front}
use Rattle.prompt.proofs.Turning.{asked_since}
use Rattle.prompt.proofs.frames.show_anew.Goals as goal

pub returns-in-Err-find_start-clause-asked : goal.returns-in-Err-find_start-clause-asked
returns-in-Err-find_start-clause-asked g c =
    asked_since g.S.EventSource.drawn g.S.EventSource.asked (knows c.args.tty.now.pass) (knows c.size_of.new.tty.pass) (knows c.find_start.new.tty.pass) (ap knows c.in-Ok.ensures.others.1) c.find_start.ensures.asked

pub returns-in-Ok-erase-clause-asked : goal.returns-in-Ok-erase-clause-asked
returns-in-Ok-erase-clause-asked g c =
    asked_since g.S.EventSource.drawn g.S.EventSource.asked (knows c.args.tty.now.pass) (knows c.size_of.new.tty.pass) (knows c.find_start.new.tty.pass) (ap knows c.in-Ok.ensures.others.1) c.find_start.ensures.asked

pub returns-in-Err-erase-clause-asked : goal.returns-in-Err-erase-clause-asked
returns-in-Err-erase-clause-asked g c =
    asked_since g.S.EventSource.drawn g.S.EventSource.asked (knows c.args.tty.now.pass) (knows c.size_of.new.tty.pass) (knows c.find_start.new.tty.pass) (ap knows c.in-Ok.ensures.others.1) c.find_start.ensures.asked

pub returns-in-Err-clause-stops : goal.returns-in-Err-clause-stops
returns-in-Err-clause-stops g c given w es out may tabs h =
    let a = area_of c.args.rows.now in
    let look = look_of given (g.H.Helper.hints c.args.prompt.now.helper.now) (g.H.Helper.candidates c.args.prompt.now.helper.now) c.args.prompt.now in
    all_of look w es c.args.editor.now (Resized a false) out (g.W.Write.contents c.size_of.new.tty.out)
    (moved look w g.W.Write.contents es c.args.editor.now (Resized a false) out c.args.tty.now.out c.size_of.new.tty.out c.in-Err.ensures.others.0 h)

pub returns-in-Err-find_start-clause-stops : goal.returns-in-Err-find_start-clause-stops
returns-in-Err-find_start-clause-stops g c given w es out may tabs h =
    let a = area_of c.args.rows.now in
    let look = look_of given (g.H.Helper.hints c.args.prompt.now.helper.now) (g.H.Helper.candidates c.args.prompt.now.helper.now) c.args.prompt.now in
    let at_size = moved look w g.W.Write.contents es c.args.editor.now (Resized a false) out c.args.tty.now.out c.size_of.new.tty.out c.in-Ok.ensures.others.0 h in
    let asked = queried look w c.args.rows.now.is_asked es c.args.editor.now a out (g.W.Write.contents c.size_of.new.tty.out) (g.W.Write.contents c.find_start.new.tty.out) at_size may c.find_start.ensures.query in
    all_queried look w es c.args.editor.now a out (g.W.Write.contents c.find_start.new.tty.out) asked

pub returns-in-Ok-erase-clause-shows : goal.returns-in-Ok-erase-clause-shows
returns-in-Ok-erase-clause-shows g c given w es out may tabs h =
    let a = area_of c.args.rows.now in
    let look = look_of given (g.H.Helper.hints c.args.prompt.now.helper.now) (g.H.Helper.candidates c.args.prompt.now.helper.now) c.args.prompt.now in
    let at_size = moved look w g.W.Write.contents es c.args.editor.now (Resized a false) out c.args.tty.now.out c.size_of.new.tty.out c.in-Ok.ensures.others.0 h in
    let asked = queried look w c.args.rows.now.is_asked es c.args.editor.now a out (g.W.Write.contents c.size_of.new.tty.out) (g.W.Write.contents c.find_start.new.tty.out) at_size may c.find_start.ensures.query in
    let room = c.resize.new.self.block.room in
    let size = c.in-Ok.size in
    let is = c.resize.ensures.area ∙ ap (resized_area (size.0 - 1) size.1 room) c.find_start.ensures.area in
    let erased = erases look w es c.args.editor.now c.in-Ok-find_start.above (size.0 - 1) size.1 room a out (g.W.Write.contents c.find_start.new.tty.out) (g.W.Write.contents c.erase.new.out) asked c.in-Ok-find_start.ensures.above (at_ok c.in-Ok-erase.is c.erase.ensures.ok) in
    let due = subst (λ (x : Area). HasWritten look w es c.args.editor.now (Due x false) out (g.W.Write.contents c.erase.new.out)) (sym is) erased in
    ok_with c.show.result (λ d. shows look w es c.args.editor.now (area_of c.resize.new.self) (area_of c.show.new.rows) false c.args.lists out (g.W.Write.contents c.erase.new.out) (g.W.Write.contents c.show.new.out) tabs due d) c.show.ensures.shows

pub returns-in-Ok-erase-clause-stops : goal.returns-in-Ok-erase-clause-stops
returns-in-Ok-erase-clause-stops g c given w es out may tabs h =
    let a = area_of c.args.rows.now in
    let look = look_of given (g.H.Helper.hints c.args.prompt.now.helper.now) (g.H.Helper.candidates c.args.prompt.now.helper.now) c.args.prompt.now in
    let at_size = moved look w g.W.Write.contents es c.args.editor.now (Resized a false) out c.args.tty.now.out c.size_of.new.tty.out c.in-Ok.ensures.others.0 h in
    let asked = queried look w c.args.rows.now.is_asked es c.args.editor.now a out (g.W.Write.contents c.size_of.new.tty.out) (g.W.Write.contents c.find_start.new.tty.out) at_size may c.find_start.ensures.query in
    let room = c.resize.new.self.block.room in
    let size = c.in-Ok.size in
    let is = c.resize.ensures.area ∙ ap (resized_area (size.0 - 1) size.1 room) c.find_start.ensures.area in
    let erased = erases look w es c.args.editor.now c.in-Ok-find_start.above (size.0 - 1) size.1 room a out (g.W.Write.contents c.find_start.new.tty.out) (g.W.Write.contents c.erase.new.out) asked c.in-Ok-find_start.ensures.above (at_ok c.in-Ok-erase.is c.erase.ensures.ok) in
    let due = subst (λ (x : Area). HasWritten look w es c.args.editor.now (Due x false) out (g.W.Write.contents c.erase.new.out)) (sym is) erased in
    err_with c.show.result (λ d. shows_front look w es c.args.editor.now (area_of c.resize.new.self) false c.args.lists out (g.W.Write.contents c.erase.new.out) (g.W.Write.contents c.show.new.out) tabs due d) c.show.ensures.stops

pub returns-in-Err-erase-clause-stops : goal.returns-in-Err-erase-clause-stops
returns-in-Err-erase-clause-stops g c given w es out may tabs h =
    let a = area_of c.args.rows.now in
    let look = look_of given (g.H.Helper.hints c.args.prompt.now.helper.now) (g.H.Helper.candidates c.args.prompt.now.helper.now) c.args.prompt.now in
    let at_size = moved look w g.W.Write.contents es c.args.editor.now (Resized a false) out c.args.tty.now.out c.size_of.new.tty.out c.in-Ok.ensures.others.0 h in
    let asked = queried look w c.args.rows.now.is_asked es c.args.editor.now a out (g.W.Write.contents c.size_of.new.tty.out) (g.W.Write.contents c.find_start.new.tty.out) at_size may c.find_start.ensures.query in
    erases_front look w es c.args.editor.now c.in-Ok-find_start.above a out (g.W.Write.contents c.find_start.new.tty.out) (g.W.Write.contents c.erase.new.out) asked c.in-Ok-find_start.ensures.above (at_err c.in-Err-erase.is c.erase.ensures.err)
