use Rattle.std.proofs.Common.{◌∙◌, ap, true, false}
use Rattle.crossterm_parse.specs.Recognizer.{ends_paste}
use Rattle.test_input.proofs.PlainLaws.{digit_at}
use Rattle.test_input.proofs.plain.ends_after_digit.Goals as goal

pub returns-in-Some : goal.returns-in-Some
returns-in-Some c =
    let cut = c.in-Some.ensures.cases in
    c.ends_the_paste.ensures ∙ ap ends_paste cut.1 ∙ digit_at c.args.bytes.now true c.in-len1-up.len_at_least cut.0

pub returns-in-None : goal.returns-in-None
returns-in-None c = c.ends_number.ensures ∙ digit_at c.args.bytes.now false c.in-len1-up.len_at_least c.in-None.ensures.cases
