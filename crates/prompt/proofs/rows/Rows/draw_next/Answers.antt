use Rattle.std.proofs.Common.{arith}
use Rattle.std.proofs.KnownBytes.{Appends-nil}
use Rattle.prompt.specs.Frames.{area_of}
use Rattle.prompt.proofs.Drawn.{drawn_from, in_none, kept, none, not_drawn_from, whole}
use Rattle.prompt.proofs.Sending.{err_of, ok_of}
use Rattle.prompt.proofs.rows.Rows.draw_next.Goals as goal

pub returns-then-width-eq0-clause-shows : goal.returns-then-width-eq0-clause-shows
returns-then-width-eq0-clause-shows g c =
    ok_of c.flush.result (in_none c.args.shown.now (area_of c.args.self.now) (g.W.Write.contents c.args.out.now) (g.W.Write.contents c.flush.new.self)
    (omega (arith, c.width.ensures, c.if-width-eq0.true)) c.flush.ensures.bytes)

pub returns-then-width-eq0-clause-stops : goal.returns-then-width-eq0-clause-stops
returns-then-width-eq0-clause-stops g c =
    let old = g.W.Write.contents c.args.out.now in
    let new = g.W.Write.contents c.flush.new.self in
    err_of c.flush.result (none c.args.shown.now (area_of c.args.self.now) old new (kept old new c.flush.ensures.bytes))

pub returns-in_err-place-clause-stops : goal.returns-in_err-place-clause-stops
returns-in_err-place-clause-stops g c =
    let old = g.W.Write.contents c.args.out.now in
    err_of c.from_residual.result (none c.args.shown.now (area_of c.args.self.now) old old (Appends-nil old))

pub returns-in-Ok-clause-shows : goal.returns-in-Ok-clause-shows
returns-in-Ok-clause-shows g c =
    let place = c.in_ok-place.place in
    let rows = c.fill.new.self in
    ok_of c.flush-in-Ok.result (drawn_from c.args.shown.now (area_of c.args.self.now) (area_of rows) c.draw_next.new.self rows.buffer place.0 place.1
    (g.W.Write.contents c.args.out.now) (g.W.Write.contents c.draw_next.new.writer) (g.W.Write.contents c.flush-in-Ok.new.self) (omega (arith, c.width.ensures, c.if-width-eq0.false))
    c.in_ok-place.ensures.kept.0 c.in_ok-place.ensures.kept.1 c.in_ok-place.ensures.kept.2 c.in_ok-place.ensures.picture
    c.in-Ok.ensures.accepted.0 c.in-Ok.ensures.drawn c.in-Ok.ensures.frame c.flush-in-Ok.ensures.bytes)

pub returns-in-Ok-clause-stops : goal.returns-in-Ok-clause-stops
returns-in-Ok-clause-stops g c =
    let place = c.in_ok-place.place in
    let rows = c.fill.new.self in
    let old = g.W.Write.contents c.args.out.now in
    let new = g.W.Write.contents c.flush-in-Ok.new.self in
    err_of c.flush-in-Ok.result (whole c.args.shown.now (area_of c.args.self.now) (record (area_of rows) { block = c.draw_next.new.self }) old new
    (drawn_from c.args.shown.now (area_of c.args.self.now) (area_of rows) c.draw_next.new.self rows.buffer place.0 place.1
    old (g.W.Write.contents c.draw_next.new.writer) new (omega (arith, c.width.ensures, c.if-width-eq0.false))
    c.in_ok-place.ensures.kept.0 c.in_ok-place.ensures.kept.1 c.in_ok-place.ensures.kept.2 c.in_ok-place.ensures.picture
    c.in-Ok.ensures.accepted.0 c.in-Ok.ensures.drawn c.in-Ok.ensures.frame c.flush-in-Ok.ensures.bytes))

pub returns-in-Err-clause-stops : goal.returns-in-Err-clause-stops
returns-in-Err-clause-stops g c =
    let place = c.in_ok-place.place in
    let rows = c.fill.new.self in
    not_drawn_from c.args.shown.now (area_of c.args.self.now) (area_of rows) c.in-Err.fault c.draw_next.new.self rows.buffer place.0 place.1
    (g.W.Write.contents c.args.out.now) (g.W.Write.contents c.draw_next.new.writer) (omega (arith, c.width.ensures, c.if-width-eq0.false))
    c.in_ok-place.ensures.kept.0 c.in_ok-place.ensures.picture c.in-Err.ensures.err
