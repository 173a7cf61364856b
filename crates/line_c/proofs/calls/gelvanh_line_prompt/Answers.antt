use Rattle.std.proofs.Common.{subst}
use Rattle.numbers.specs.Style.{style_at}
use Rattle.line_c.specs.Answers.{AddsPart, WithText}
use Rattle.line_c.specs.Kept.{LineState}
use Rattle.line_c.proofs.calls.gelvanh_line_prompt.Goals as goal

pub returns : goal.returns
returns c =
    let text = c.args.text.now in (
      c.prompt.result,
      c.number.ensures,
      subst (λ (k : LineState). WithText text (AddsPart (style_at c.args.style.now) text) c.prompt.result k c.prompt.new.self) c.open.ensures.value c.prompt.ensures,
    )
