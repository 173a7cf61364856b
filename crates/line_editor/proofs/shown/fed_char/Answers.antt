use Rattle.std.proofs.Common.{sym, ◌∙◌}
use Rattle.std.specs.Str.{chars}
use Rattle.line_editor.proofs.Showing.{fed-blank}
use Rattle.line_editor.proofs.shown.fed_char.Goals as goal

pub returns-then-c-eq9 : goal.returns-then-c-eq9
returns-then-c-eq9 c = fed-blank c.args.c (chars c.args.rest.now) c.if-c-eq9.true
