use Rattle.std.proofs.Common.{sym, arith}
use Rattle.line_editor.proofs.Passing.{columns-printable}
use Rattle.line_editor.proofs.views.columns_of.Goals as goal

pub returns-then-matches-clause-value : goal.returns-then-matches-clause-value
returns-then-matches-clause-value c = sym (columns-printable c.args.c (omega arith, omega arith))
