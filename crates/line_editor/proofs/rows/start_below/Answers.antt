use Rattle.line_editor.proofs.Rowing.{below_none}
use Rattle.line_editor.proofs.rows.start_below.Goals as goal

pub returns-then-end-text : goal.returns-then-end-text
returns-then-end-text c = below_none c.args.text.now c.args.at _ c.row_end-end.ensures.end c.if-end-text.true
