use Rattle.std.proofs.Common.{◌-◌, arith, subst}
use Rattle.screen.specs.Blocks.{more_rows, to_row}
use Rattle.screen.specs.inside.Blocks.{PutsTokens}
use Rattle.screen.proofs.RowSteps.{grows_some, puts_then}
use Rattle.screen.proofs.walking.grow.Goals as goal

pub returns-clause-tokens : goal.returns-clause-tokens
returns-clause-tokens g c =
    let held = g.W.Write.contents in
    let old = held c.args.writer.now in
    let below = held c.go_to_row.new.writer in
    let now = held c.add_rows.new.writer in
    let known = c.args.known in
    let row = c.args.place.1 in
    let more = c.args.height - known in
    subst (λ ts. PutsTokens ts old c.args.pen.now now c.add_rows.new.pen) (grows_some known row c.args.place.0 more (omega (arith, c.if-height-known.false))).2
    (puts_then (to_row row (known - 1)) (more_rows more) old below now c.args.pen.now c.go_to_row.new.pen c.add_rows.new.pen c.go_to_row.ensures c.add_rows.ensures)
