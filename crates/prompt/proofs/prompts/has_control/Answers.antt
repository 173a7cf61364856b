use Rattle.std.proofs.Common.{chars, length, take, ap, sym, ◌∙◌, arith}
use Rattle.std.proofs.lemmas.Iterator.{YieldsList-from_chars}
use Rattle.std.proofs.lemmas.Iterator.Consumers.{YieldsList-turn, YieldsList-end}
use Rattle.std.proofs.lemmas.List.{take_all, length_push}
use Rattle.prompt.specs.Prompts.{has_control}
use Rattle.prompt.proofs.Controls.{none_more, some_at}
use Rattle.prompt.proofs.prompts.has_control.Goals as goal

pub loop-c-preserved : goal.loop-c-preserved
loop-c-preserved c =
    let text = chars c.args.text.now in
    let n = length c.loop-c.yielded in
    let turn = YieldsList-turn (YieldsList-from_chars c.args.text.now c.utf8.text cc) c.loop-c.yielded _ c.loop-c.yielded_by _ _ c.in-Some.c c.in-Some.is c.next.ensures.steps in
    ap (λ m. has_control (take m text)) (length_push c.loop-c.yielded c.in-Some.c)
    ∙ none_more text n c.in-Some.c turn.0 turn.1 (sym c.is_control.ensures ∙ c.if-is_control.false) c.loop-c.invariant

pub returns-then-is_control : goal.returns-then-is_control
returns-then-is_control c =
    let text = chars c.args.text.now in
    let turn = YieldsList-turn (YieldsList-from_chars c.args.text.now c.utf8.text cc) c.loop-c.yielded _ c.loop-c.yielded_by _ _ c.in-Some.c c.in-Some.is c.next.ensures.steps in
    sym (some_at text (length c.loop-c.yielded) c.in-Some.c turn.0 turn.1 (sym c.is_control.ensures ∙ c.if-is_control.true))

pub returns : goal.returns
returns c =
    let text = chars c.args.text.now in
    let end = YieldsList-end (YieldsList-from_chars c.args.text.now c.utf8.text cc) c.loop-c.yielded _ c.loop-c.yielded_by _ _ c.in-None.is c.next.ensures.steps in
    sym c.loop-c.invariant ∙ ap has_control (take_all (length c.loop-c.yielded) text (omega (arith, end.1)))
