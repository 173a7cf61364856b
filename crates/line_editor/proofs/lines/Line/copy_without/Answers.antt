use Rattle.std.proofs.Common.{◌∙◌, ap}
use Rattle.line_editor.specs.Edits.{erased}
use Rattle.line_editor.specs.Splits.{Split}
use Rattle.line_editor.proofs.lines.Line.copy_without.Goals as goal

pub returns : goal.returns
returns g c = c.in_ok-erase.ensures.ok ∙ ap (λ (d : Split). erased c.args.target d) c.in_ok-line.ensures
