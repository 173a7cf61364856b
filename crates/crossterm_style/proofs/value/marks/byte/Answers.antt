use Rattle.std.proofs.Common.{◌∙◌}
use Rattle.crossterm_style.proofs.MarkLaws.{parsed_byte}
use Rattle.crossterm_style.proofs.value.marks.byte.Goals as goal

pub returns : goal.returns
returns c = c.ok.ensures.value ∙ parsed_byte c.args.text.now c.parse.result c.parse.ensures.value.0
