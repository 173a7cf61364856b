use Rattle.std.proofs.Common.{sym, ◌∙◌}
use Rattle.std.specs.Str.{chars}
use Rattle.line_editor.proofs.Showing.{pasted-blank}
use Rattle.line_editor.proofs.shown.blanked_char.Goals as goal

pub returns-then-begins_behind_gap : goal.returns-then-begins_behind_gap
returns-then-begins_behind_gap c =
    pasted-blank c.args.c (chars c.args.rest.now) (sym c.is_gap.ensures ∙ c.if-is_gap.true) (sym c.begins_behind_gap.ensures ∙ c.if-begins_behind_gap.true)
