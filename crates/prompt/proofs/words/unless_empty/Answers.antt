use Rattle.std.proofs.Common.{sym}
use Rattle.prompt.proofs.Naming.{empty_text, whole_text}
use Rattle.prompt.proofs.words.unless_empty.Goals as goal

pub returns-then-is_empty : goal.returns-then-is_empty
returns-then-is_empty c = empty_text c.args.text.now (sym c.if-is_empty.ensures)

pub returns-else-is_empty : goal.returns-else-is_empty
returns-else-is_empty c = whole_text c.args.text.now c.utf8.text (sym c.if-is_empty.ensures)
