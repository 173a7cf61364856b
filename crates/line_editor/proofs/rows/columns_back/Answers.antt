use Rattle.std.proofs.Common.{arith}
use Rattle.line_editor.proofs.Rowing.{columns-start}
use Rattle.line_editor.proofs.rows.columns_back.Goals as goal

pub returns : goal.returns
returns c = omega (arith, c.loop-place.invariant.same, columns-start c.args.text.now c.loop-place.place c.loop-place-test.false)
