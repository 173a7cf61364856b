use Rattle.line_editor.proofs.Rowing.{above_none}
use Rattle.line_editor.proofs.rows.start_above.Goals as goal

pub returns-then-start-eq0 : goal.returns-then-start-eq0
returns-then-start-eq0 c = above_none c.args.text.now c.args.at _ c.row_start-start.ensures.start c.if-start-eq0.true
