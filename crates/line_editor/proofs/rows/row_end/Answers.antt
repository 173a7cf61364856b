use Rattle.std.proofs.Common.{sym, ◌∙◌}
use Rattle.line_editor.specs.Rows.{ends_row}
use Rattle.line_editor.proofs.Stepping.{ahead_end}
use Rattle.line_editor.proofs.rows.row_end.Goals as goal

pub returns-clause-end : goal.returns-clause-end
returns-clause-end c = sym (c.loop-place.invariant.same ∙ ahead_end ends_row c.args.text.now _ c.loop-place-test.false)
