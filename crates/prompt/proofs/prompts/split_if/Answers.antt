use Rattle.std.proofs.Common.{ap, sym, ◌∙◌, ◌++◌, true, drop}
use Rattle.std.proofs.lemmas.List.{take-append-drop}
use Rattle.std.proofs.lemmas.Str.Pattern.{starts_text}
use Rattle.prompt.proofs.prompts.split_if.Goals as goal

pub returns-then-starts_with : goal.returns-then-starts_with
returns-then-starts_with c =
    let text = c.args.text.now in (
      sym (take-append-drop c.args.place text) ∙ ap (λ t. t ++ drop c.args.place text) (sym c.in-Some.ensures.front) ∙ ap (λ t. c.in-Some.front.now ++ t) (sym c.in-Some.ensures.back),
      sym (starts_text true c.in-Some.rest.now c.args.after.now c.if-starts_with.ensures.cases),
    )
