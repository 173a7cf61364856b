use Rattle.std.proofs.Common.{◌++◌, ◌<◌, ◌^◌, List, arith, subst}
use Rattle.screen.specs.declared.strokes.Stroke.{Stroke}
use Rattle.screen.specs.inside.Pens.{PutsStrokes}
use Rattle.screen.specs.inside.Scans.{Visited, start_by}
use Rattle.screen.specs.inside.Strokes.{AreFitting, last_strokes}
use Rattle.screen.proofs.Frames.{fitting, planned}
use Rattle.screen.proofs.Putting.{puts_both, puts_front, puts_whole}
use Rattle.screen.proofs.planning.write_frame.Goals as goal

pub returns-in-Ok-clause-ok : goal.returns-in-Ok-clause-ok
returns-in-Ok-clause-ok g c =
    let held = g.W.Write.contents in
    let old = held c.args.writer.now in
    let painted = held c.scan.new.writer in
    let ended = held c.put_last.new.writer in
    let w = c.args.size.0 in
    let h = c.args.size.1 in
    let wide : w < 2 ^ 32 = omega arith in
    let high : h < 2 ^ 32 = omega arith in
    let at = c.scan.result.0 in
    let style = c.scan.result.1 in
    let known = c.args.is_known in
    let scanned : (strokes : List Stroke) × Visited (start_by known) w h c.args.before.now c.args.after.now at style strokes × AreFitting (start_by known) strokes × PutsStrokes strokes old c.new-pen.result painted c.scan.new.pen =
    subst (λ s. (strokes : List Stroke) × Visited s w h c.args.before.now c.args.after.now at style strokes × AreFitting s strokes × PutsStrokes strokes old c.new-pen.result painted c.scan.new.pen) c.of.ensures c.scan.ensures.strokes in
    let last = last_strokes c.args.cursor in
    let all = puts_both scanned.0 last old painted ended c.new-pen.result c.scan.new.pen c.put_last.new.pen scanned.3 c.put_last.ensures in (
      scanned.0 ++ last,
      planned known w h c.args.before.now c.args.after.now c.args.cursor at style scanned.0 wide high c.requires.cursor scanned.1,
      fitting (start_by known) w h scanned.0 c.args.cursor wide high c.requires.cursor scanned.2,
      puts_whole c.args.in_row c.args.colors (scanned.0 ++ last) old ended (held c.finish.new.writer) c.new-pen.result c.put_last.new.pen c.new-pen.ensures.in_row c.new-pen.ensures.colors c.new-pen.ensures.waiting c.new-pen.ensures.fault all c.in-Ok.ensures.ok,
    )

pub returns-in-Err-clause-err : goal.returns-in-Err-clause-err
returns-in-Err-clause-err g c =
    let held = g.W.Write.contents in
    let old = held c.args.writer.now in
    let painted = held c.scan.new.writer in
    let ended = held c.put_last.new.writer in
    let w = c.args.size.0 in
    let h = c.args.size.1 in
    let wide : w < 2 ^ 32 = omega arith in
    let high : h < 2 ^ 32 = omega arith in
    let at = c.scan.result.0 in
    let style = c.scan.result.1 in
    let known = c.args.is_known in
    let scanned : (strokes : List Stroke) × Visited (start_by known) w h c.args.before.now c.args.after.now at style strokes × AreFitting (start_by known) strokes × PutsStrokes strokes old c.new-pen.result painted c.scan.new.pen =
    subst (λ s. (strokes : List Stroke) × Visited s w h c.args.before.now c.args.after.now at style strokes × AreFitting s strokes × PutsStrokes strokes old c.new-pen.result painted c.scan.new.pen) c.of.ensures c.scan.ensures.strokes in
    let last = last_strokes c.args.cursor in
    let all = puts_both scanned.0 last old painted ended c.new-pen.result c.scan.new.pen c.put_last.new.pen scanned.3 c.put_last.ensures in (
      scanned.0 ++ last,
      planned known w h c.args.before.now c.args.after.now c.args.cursor at style scanned.0 wide high c.requires.cursor scanned.1,
      fitting (start_by known) w h scanned.0 c.args.cursor wide high c.requires.cursor scanned.2,
      puts_front c.args.in_row c.args.colors (scanned.0 ++ last) old ended (held c.finish.new.writer) c.new-pen.result c.put_last.new.pen c.new-pen.ensures.in_row c.new-pen.ensures.colors c.new-pen.ensures.waiting c.new-pen.ensures.fault all c.in-Err.ensures.err,
    )
