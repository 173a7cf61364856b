use Rattle.std.proofs.Common.{◌∙◌}
use Rattle.crossterm_parse.specs.Numbered.{numbered_by}
use Rattle.test_input.proofs.PlainLaws.{read_at}
use Rattle.test_input.proofs.plain.meanings.meaning_of_number.Goals as goal

pub returns-in-len1-up : goal.returns-in-len1-up
returns-in-len1-up c = c.meaning.ensures ∙ read_at (numbered_by c.args.raw) c.args.bytes.now _ c.in-len1-up.len_at_least c.read_digits.ensures
