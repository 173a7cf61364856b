use Rattle.std.proofs.Common.{◌+◌, max, min, refl, chars, length, take, ap, sym, ◌∙◌, arith}
use Rattle.std.proofs.lemmas.Iterator.{YieldsList-from_chars}
use Rattle.std.proofs.lemmas.Iterator.Consumers.{YieldsList-turn, YieldsList-end}
use Rattle.std.proofs.lemmas.List.{take_all, length_push}
use Rattle.line_editor.specs.Views.{columns_of}
use Rattle.prompt.specs.Pictures.{all_columns, most_columns}
use Rattle.prompt.proofs.Fitting.{one_more}
use Rattle.prompt.proofs.prompts.most_columns.Goals as goal

pub loop-c-preserved : goal.loop-c-preserved
loop-c-preserved c =
    let text = chars c.args.text.now in
    let n = length c.loop-c.yielded in
    let turn = YieldsList-turn (YieldsList-from_chars c.args.text.now c.utf8.text cc) c.loop-c.yielded _ c.loop-c.yielded_by _ _ c.in-Some.c c.in-Some.is c.next.ensures.steps in
    c.saturating_add-columns.ensures ∙ ap (λ k. min (k + c.most_of.result) 65535) c.loop-c.invariant ∙ ap (λ w. min (most_columns (take n text) + w) 65535) c.most_of.ensures
    ∙ one_more all_columns (λ d. max (columns_of d) 1) refl (λ d ds. refl) text n c.in-Some.c turn.0 turn.1 ∙ ap (λ m. most_columns (take m text)) (sym (length_push c.loop-c.yielded c.in-Some.c))

pub returns : goal.returns
returns c =
    let text = chars c.args.text.now in
    let end = YieldsList-end (YieldsList-from_chars c.args.text.now c.utf8.text cc) c.loop-c.yielded _ c.loop-c.yielded_by _ _ c.in-None.is c.next.ensures.steps in
    c.loop-c.invariant ∙ ap most_columns (take_all (length c.loop-c.yielded) text (omega (arith, end.1)))
