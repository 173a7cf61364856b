use Rattle.std.proofs.Common.{◌≡◌, ◌<◌, ◌∙◌, [], arith, ext_get_or, length, refl, sym}
use Rattle.screen.specs.Cells.{blank}
use Rattle.screen.proofs.RowSteps.{puts_nothing}
use Rattle.screen.proofs.Visiting.{row_changes, row_stays}
use Rattle.screen.proofs.walking.visit_row.Goals as goal

pub returns-then-next_difference-after-clause-tokens : goal.returns-then-next_difference-after-clause-tokens
returns-then-next_difference-after-clause-tokens g c =
    let long : length c.args.before.now ≡ length c.args.after.now = c.requires.before.0 ∙ sym c.requires.after.0 in (
      [],
      row_stays c.args.width c.args.row c.args.pen.now.colors c.args.before.now c.args.after.now c.args.place c.next_difference.result long c.if-next_difference-after.true c.next_difference.ensures.same,
      puts_nothing (g.W.Write.contents c.args.writer.now) c.args.pen.now,
    )

pub returns-then-next_difference-after-clause-shown : goal.returns-then-next_difference-after-clause-shown
returns-then-next_difference-after-clause-shown g c =
    let long : length c.args.before.now ≡ length c.args.after.now = c.requires.before.0 ∙ sym c.requires.after.0 in
    ext_get_or blank c.args.before.now c.args.after.now long (λ k lt. c.next_difference.ensures.same k (omega arith) (omega (arith, lt, long, c.if-next_difference-after.true)))

pub returns-clause-tokens : goal.returns-clause-tokens
returns-clause-tokens g c =
    let held = g.W.Write.contents in
    let n = c.next_difference.result in
    let inside : n < length c.args.after.now = omega (arith, c.next_difference.ensures.bound, c.if-next_difference-after.false) in
    row_changes c.args.width c.args.row n c.args.pen.now.colors c.args.before.now c.args.after.now c.args.place c.stop_in-column.result (held c.args.writer.now) (held c.go_to_row.new.writer) (held c.put_next.new.writer)
    c.args.pen.now c.go_to_row.new.pen c.put_next.new.pen c.requires.in_row refl c.requires.place (omega (arith, c.stop_in-column.ensures, c.requires.end)) inside (c.next_difference.ensures.differ inside) c.go_to_row.ensures c.put_next.ensures.strokes
