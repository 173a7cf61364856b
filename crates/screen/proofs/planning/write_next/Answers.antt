use Rattle.screen.proofs.Putting.{puts_front, puts_whole}
use Rattle.screen.proofs.planning.write_next.Goals as goal

pub returns-in-Ok-clause-ok : goal.returns-in-Ok-clause-ok
returns-in-Ok-clause-ok g c =
    let held = g.W.Write.contents in
    let (strokes, plan, fit, all) = c.put_next.ensures.strokes in (
      strokes,
      plan,
      fit,
      puts_whole _ c.args.colors strokes (held c.args.writer.now) (held c.put_next.new.writer) (held c.finish.new.writer) c.new-pen.result c.put_next.new.pen c.new-pen.ensures.in_row c.new-pen.ensures.colors c.new-pen.ensures.waiting c.new-pen.ensures.fault all c.in-Ok.ensures.ok,
    )

pub returns-in-Err-clause-err : goal.returns-in-Err-clause-err
returns-in-Err-clause-err g c =
    let held = g.W.Write.contents in
    let (strokes, plan, fit, all) = c.put_next.ensures.strokes in (
      strokes,
      plan,
      fit,
      puts_front _ c.args.colors strokes (held c.args.writer.now) (held c.put_next.new.writer) (held c.finish.new.writer) c.new-pen.result c.put_next.new.pen c.new-pen.ensures.in_row c.new-pen.ensures.colors c.new-pen.ensures.waiting c.new-pen.ensures.fault all c.in-Err.ensures.err,
    )
