use Rattle.std.proofs.Common.{◌∙◌}
use Rattle.test_input.proofs.PlainLaws.{paste_on}
use Rattle.test_input.proofs.plain.+ends_the_paste.Goals as goal

pub returns-in-None : goal.returns-in-None
returns-in-None t c = c.ends_the_paste.ensures ∙ paste_on c.args.bytes.now c.in-len1-up.len_at_least c.in-None.ensures.cases
