use Rattle.std.proofs.Common.{sym, ◌∙◌}
use Rattle.line_editor.proofs.Rowing.{along-end}
use Rattle.line_editor.proofs.rows.place_along.Goals as goal

pub returns-clause-place : goal.returns-clause-place
returns-clause-place c = sym (c.loop-place.invariant.same ∙ along-end c.loop-place.room c.args.text.now _ c.loop-place-test.false)
