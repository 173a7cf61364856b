use Rattle.std.proofs.Common.{sym, ◌∙◌}
use Rattle.crossterm_parse.proofs.Ascii.{is_uppercase-ascii}
use Rattle.crossterm_parse.proofs.meaning.is_upper.Goals as goal

pub returns-then-code-lt127 : goal.returns-then-code-lt127
returns-then-code-lt127 c = c.is_capital.ensures ∙ sym (is_uppercase-ascii c.args.c c.if-code-lt127.true)
