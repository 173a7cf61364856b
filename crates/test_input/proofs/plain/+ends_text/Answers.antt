use Rattle.std.proofs.Common.{◌∙◌, sym}
use Rattle.test_input.proofs.PlainLaws.{ends_on}
use Rattle.test_input.proofs.plain.+ends_text.Goals as goal

pub returns-then-continues : goal.returns-then-continues
returns-then-continues t c =
    c.ends_text.ensures ∙ ends_on c.args.further c.args.bytes.now c.in-len1-up.len_at_least c.if-further-gt0.true (sym c.continues.ensures ∙ c.if-continues.true)
