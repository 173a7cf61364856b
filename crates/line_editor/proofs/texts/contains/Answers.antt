use Rattle.std.proofs.Common.{sym, ◌∙◌}
use Rattle.std.specs.Str.{chars}
use Rattle.line_editor.proofs.Looking.{contains_here}
use Rattle.line_editor.proofs.texts.contains.Goals as goal

pub returns : goal.returns
returns c = sym (c.loop-rest.invariant.same ∙ contains_here (chars c.args.pattern.now) (chars c.loop-rest.rest.now) (sym c.loop-rest-test.ensures))
