use Rattle.std.proofs.Common.{◌∙◌, arith}
use Rattle.test_input.proofs.PlainLaws.{number_at, report_at}
use Rattle.test_input.proofs.plain.meanings.meaning_of_csi.Goals as goal

pub returns-in-60 : goal.returns-in-60
returns-in-60 c = c.meaning_of_report.ensures ∙ report_at c.args.raw c.args.bytes.now c.in-60.len_at_least (omega arith)

pub returns-in-48-to-57 : goal.returns-in-48-to-57
returns-in-48-to-57 c = c.meaning_of_number.ensures ∙ number_at c.args.raw c.args.bytes.now c.in-48-to-57.len_at_least (omega arith) (omega arith)
