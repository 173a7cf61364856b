use Rattle.std.proofs.Common.{◌+◌, ap, arith, sym, ◌∙◌}
use Rattle.unicode_segmentation.specs.Segments.{chars_before, chars_from}
use Rattle.line_editor.specs.Splits.{split_at}
use Rattle.line_editor.specs.Views.{last_seen}
use Rattle.line_editor.proofs.Passing.{boundary-behind, last_seen-passed}
use Rattle.line_editor.proofs.Seeing.{last_seen-end}
use Rattle.line_editor.proofs.views.end_seen.Goals as goal

pub place_or-best-requires-clause-place : goal.place_or-best-requires-clause-place
place_or-best-requires-clause-place c =
    let place = c.loop-place.place in
    let near = c.ascii_ahead-near in
    boundary-behind c.args.text.now place (place + near.result) (place + near.result) c.utf8.text near.ensures.printable (omega arith) (omega arith) near.ensures.on

pub loop-place-preserved-then-near-gt1 : goal.loop-place-preserved-then-near-gt1
loop-place-preserved-then-near-gt1 c =
    let text = c.args.text.now in
    let place = c.loop-place.place in
    let used = c.loop-place.used in
    let near = c.ascii_ahead-near in
    let n = near.result in
    let best = c.place_or-best.ensures in
    record {
      boundary = boundary-behind text place (place + n) (place + n) c.utf8.text near.ensures.printable (omega arith) (omega arith) near.ensures.on;
      best_boundary = best.boundary;
      on = omega arith;
      best_on = best.on c.args.at (omega arith) (omega arith);
      few = omega arith;
      same = c.loop-place.invariant.same
          ∙ last_seen-passed text c.args.room used place (split_at text c.loop-place.best) n c.utf8.text near.ensures.on c.if-near-gt1.true (omega arith) near.ensures.printable
          ∙ ap (λ s. last_seen c.args.room (used + n) (chars_before text (place + n)) (chars_from text (place + n)) s) (sym best.value);
    }

pub returns-clause-value : goal.returns-clause-value
returns-clause-value c =
    sym (c.loop-place.invariant.same
    ∙ last_seen-end c.args.room c.loop-place.used c.loop-place.place c.args.text.now (split_at c.args.text.now c.loop-place.best) c.loop-place-test.false)
