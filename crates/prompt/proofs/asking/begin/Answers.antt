use Rattle.std.proofs.Common.{[], false, refl, ◌∙◌}
use Rattle.prompt.specs.Frames.{area_of}
use Rattle.prompt.specs.Written.{Due, look_of}
use Rattle.prompt.proofs.Drawn.{new_area, new_is}
use Rattle.prompt.proofs.Sending.{err_of}
use Rattle.prompt.proofs.Showing.{all_of, moved, shows, shows_front, starts}
use Rattle.prompt.proofs.asking.begin.Goals as goal

pub returns-in-Err-clause-stops : goal.returns-in-Err-clause-stops
returns-in-Err-clause-stops g c given =
    let look = look_of given (g.H.Helper.hints c.args.prompt.now.helper.now) (g.H.Helper.candidates c.args.prompt.now.helper.now) c.args.prompt.now in
    let k = c.args.editor.now in
    let old = g.W.Write.contents c.args.tty.now.out in
    let a = new_area c.args.prompt.now.wraps in
    all_of look k [] k (Due a false) old (g.W.Write.contents c.enable_raw_mode.new.self.out) (moved look k g.W.Write.contents [] k (Due a false) old c.args.tty.now.out c.enable_raw_mode.new.self.out (c.in-Err.ensures.others.0) (starts look k a old (new_is c.args.prompt.now.wraps)))

pub returns-in-Err-size_for-clause-stops : goal.returns-in-Err-size_for-clause-stops
returns-in-Err-size_for-clause-stops g c given =
    let look = look_of given (g.H.Helper.hints c.args.prompt.now.helper.now) (g.H.Helper.candidates c.args.prompt.now.helper.now) c.args.prompt.now in
    let k = c.args.editor.now in
    let old = g.W.Write.contents c.args.tty.now.out in
    let a = new_area c.args.prompt.now.wraps in
    all_of look k [] k (Due a false) old (g.W.Write.contents c.size_for.new.tty.out) (moved look k g.W.Write.contents [] k (Due a false) old c.args.tty.now.out c.size_for.new.tty.out (c.size_for.ensures.others.0 ∙ c.in-Ok.ensures.others.0) (starts look k a old (new_is c.args.prompt.now.wraps)))

pub returns-in_err-rows-clause-stops : goal.returns-in_err-rows-clause-stops
returns-in_err-rows-clause-stops g c = err_of c.from_residual.result (λ given.
    let look = look_of given (g.H.Helper.hints c.args.prompt.now.helper.now) (g.H.Helper.candidates c.args.prompt.now.helper.now) c.args.prompt.now in
    let k = c.args.editor.now in
    let old = g.W.Write.contents c.args.tty.now.out in
    let a = new_area c.args.prompt.now.wraps in
    all_of look k [] k (Due a false) old (g.W.Write.contents c.size_for.new.tty.out) (moved look k g.W.Write.contents [] k (Due a false) old c.args.tty.now.out c.size_for.new.tty.out (c.size_for.ensures.others.0 ∙ c.in-Ok.ensures.others.0) (starts look k a old (new_is c.args.prompt.now.wraps))))

pub returns-in-Ok-show-clause-shows : goal.returns-in-Ok-show-clause-shows
returns-in-Ok-show-clause-shows g c given =
    let look = look_of given (g.H.Helper.hints c.args.prompt.now.helper.now) (g.H.Helper.candidates c.args.prompt.now.helper.now) c.args.prompt.now in
    let k = c.args.editor.now in
    let old = g.W.Write.contents c.args.tty.now.out in
    let mid = g.W.Write.contents c.size_for.new.tty.out in
    let a = area_of c.in_ok-rows.rows in
    let due = moved look k g.W.Write.contents [] k (Due a false) old c.args.tty.now.out c.size_for.new.tty.out (c.size_for.ensures.others.0 ∙ c.in-Ok.ensures.others.0) (starts look k a old c.in_ok-rows.ensures.fresh) in
    shows look k [] k a (area_of c.show.new.rows) false false old mid (g.W.Write.contents c.show.new.out) refl due c.in-Ok-show.ensures.shows

pub returns-in-Err-show-clause-stops : goal.returns-in-Err-show-clause-stops
returns-in-Err-show-clause-stops g c given =
    let look = look_of given (g.H.Helper.hints c.args.prompt.now.helper.now) (g.H.Helper.candidates c.args.prompt.now.helper.now) c.args.prompt.now in
    let k = c.args.editor.now in
    let old = g.W.Write.contents c.args.tty.now.out in
    let mid = g.W.Write.contents c.size_for.new.tty.out in
    let a = area_of c.in_ok-rows.rows in
    let due = moved look k g.W.Write.contents [] k (Due a false) old c.args.tty.now.out c.size_for.new.tty.out (c.size_for.ensures.others.0 ∙ c.in-Ok.ensures.others.0) (starts look k a old c.in_ok-rows.ensures.fresh) in
    shows_front look k [] k a false false old mid (g.W.Write.contents c.show.new.out) refl due c.in-Err-show.ensures.stops
