use Rattle.std.proofs.Common.{subst}
use Rattle.std.specs.Prelude.{OnErr, OnOk}
use Rattle.prompt.specs.Frames.{Area, Draws, DrawsFront, area_of}
use Rattle.prompt.proofs.rows.Rows.draw.Goals as goal

pub returns-clause-shows : goal.returns-clause-shows
returns-clause-shows g c =
    subst (λ (a : Area). OnOk c.draw_next.result (Draws c.args.shown.now a (area_of c.draw_next.new.self) (g.W.Write.contents c.args.out.now) (g.W.Write.contents c.draw_next.new.out)))
    c.forget_cursor.ensures.area c.draw_next.ensures.shows

pub returns-clause-stops : goal.returns-clause-stops
returns-clause-stops g c =
    subst (λ (a : Area). OnErr c.draw_next.result (DrawsFront c.args.shown.now a (g.W.Write.contents c.args.out.now) (g.W.Write.contents c.draw_next.new.out)))
    c.forget_cursor.ensures.area c.draw_next.ensures.stops
