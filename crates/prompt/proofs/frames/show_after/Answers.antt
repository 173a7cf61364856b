use Rattle.std.proofs.Common.{Bool, cond, false, subst, sym, ◌∙◌}
use Rattle.prompt.specs.Frames.{area_of}
use Rattle.prompt.specs.Written.{Due, HasWritten, Resized, look_of}
use Rattle.prompt.proofs.Sending.{err_with, ok_with}
use Rattle.prompt.proofs.Showing.{shows, shows_front}
use Rattle.prompt.proofs.frames.show_after.Goals as goal

pub returns-then-is_resize-clause-shows : goal.returns-then-is_resize-clause-shows
returns-then-is_resize-clause-shows g c given w es out may tabs h =
    let look = look_of given (g.H.Helper.hints c.args.prompt.now.helper.now) (g.H.Helper.candidates c.args.prompt.now.helper.now) c.args.prompt.now in
    let a = area_of c.args.rows.now in
    let old = g.W.Write.contents c.args.tty.now.out in
    let now = subst (λ (b : Bool). HasWritten look w es c.args.editor.now (cond b (Resized a false) (Due a false)) out old) (sym c.is_resize.ensures ∙ c.if-is_resize.true) h in
    c.show_anew.ensures.shows given w es out may tabs now

pub returns-then-is_resize-clause-stops : goal.returns-then-is_resize-clause-stops
returns-then-is_resize-clause-stops g c given w es out may tabs h =
    let look = look_of given (g.H.Helper.hints c.args.prompt.now.helper.now) (g.H.Helper.candidates c.args.prompt.now.helper.now) c.args.prompt.now in
    let a = area_of c.args.rows.now in
    let old = g.W.Write.contents c.args.tty.now.out in
    let now = subst (λ (b : Bool). HasWritten look w es c.args.editor.now (cond b (Resized a false) (Due a false)) out old) (sym c.is_resize.ensures ∙ c.if-is_resize.true) h in
    c.show_anew.ensures.stops given w es out may tabs now

pub returns-else-is_resize-clause-shows : goal.returns-else-is_resize-clause-shows
returns-else-is_resize-clause-shows g c given w es out may tabs h =
    let look = look_of given (g.H.Helper.hints c.args.prompt.now.helper.now) (g.H.Helper.candidates c.args.prompt.now.helper.now) c.args.prompt.now in
    let a = area_of c.args.rows.now in
    let old = g.W.Write.contents c.args.tty.now.out in
    let now = subst (λ (b : Bool). HasWritten look w es c.args.editor.now (cond b (Resized a false) (Due a false)) out old) (sym c.is_resize.ensures ∙ c.if-is_resize.false) h in
    ok_with c.show.result (λ d. shows look w es c.args.editor.now a (area_of c.show.new.rows) false c.args.lists out old (g.W.Write.contents c.show.new.out) tabs now d) c.show.ensures.shows

pub returns-else-is_resize-clause-stops : goal.returns-else-is_resize-clause-stops
returns-else-is_resize-clause-stops g c given w es out may tabs h =
    let look = look_of given (g.H.Helper.hints c.args.prompt.now.helper.now) (g.H.Helper.candidates c.args.prompt.now.helper.now) c.args.prompt.now in
    let a = area_of c.args.rows.now in
    let old = g.W.Write.contents c.args.tty.now.out in
    let now = subst (λ (b : Bool). HasWritten look w es c.args.editor.now (cond b (Resized a false) (Due a false)) out old) (sym c.is_resize.ensures ∙ c.if-is_resize.false) h in
    err_with c.show.result (λ d. shows_front look w es c.args.editor.now a false c.args.lists out old (g.W.Write.contents c.show.new.out) tabs now d) c.show.ensures.stops
