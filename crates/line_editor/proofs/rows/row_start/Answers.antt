use Rattle.std.proofs.Common.{sym, ◌∙◌}
use Rattle.line_editor.specs.Rows.{begins_row}
use Rattle.line_editor.proofs.Stepping.{behind_start}
use Rattle.line_editor.proofs.rows.row_start.Goals as goal

pub returns-clause-start : goal.returns-clause-start
returns-clause-start c = sym (c.loop-place.invariant.same ∙ behind_start begins_row c.args.text.now _ c.loop-place-test.false)
