use Rattle.std.proofs.Common.{◌≡◌, ◌+◌, None, Some, chars, drop, length, ap, sym, ◌∙◌, arith}
use Rattle.std.proofs.lemmas.Iterator.{YieldsList-from_chars}
use Rattle.std.proofs.lemmas.Iterator.Consumers.{YieldsList-turn, YieldsList-end}
use Rattle.std.proofs.lemmas.List.{drop_all, length_push}
use Rattle.screen.specs.Texts.{text_fault, without_marks}
use Rattle.screen.specs.inside.Edits.{fault_unless_mark}
use Rattle.screen.proofs.Prints.{marks_fault_from}
use Rattle.screen.proofs.texts.fault_without_marks.Goals as goal

pub loop-symbol-preserved : goal.loop-symbol-preserved
loop-symbol-preserved c =
    let text = chars c.args.text.now in
    let symbol = c.in-Some.symbol in
    let n = length c.loop-symbol.yielded in
    let turn = YieldsList-turn (YieldsList-from_chars c.args.text.now c.utf8.text cc) c.loop-symbol.yielded _ c.loop-symbol.yielded_by _ _ symbol c.in-Some.is c.next.ensures.steps in
    let none : fault_unless_mark symbol ≡ None = sym c.fault_unless_mark.ensures ∙ c.in_default.is in
    let rest : text_fault (without_marks (drop n text)) ≡ text_fault (without_marks (drop (n + 1) text)) =
    marks_fault_from text n symbol turn.0 turn.1 ∙ ap (λ o. elim o [ Some fault ↦ Some fault | None ↦ text_fault (without_marks (drop (n + 1) text)) ]) none in
    ap (λ m. text_fault (without_marks (drop m text))) (length_push c.loop-symbol.yielded symbol) ∙ sym rest ∙ c.loop-symbol.invariant

pub returns-in-Some-fault_unless_mark : goal.returns-in-Some-fault_unless_mark
returns-in-Some-fault_unless_mark c =
    let text = chars c.args.text.now in
    let n = length c.loop-symbol.yielded in
    let turn = YieldsList-turn (YieldsList-from_chars c.args.text.now c.utf8.text cc) c.loop-symbol.yielded _ c.loop-symbol.yielded_by _ _ c.in-Some.symbol c.in-Some.is c.next.ensures.steps in
    let some : fault_unless_mark c.in-Some.symbol ≡ Some c.in-Some-fault_unless_mark.fault = sym c.fault_unless_mark.ensures ∙ c.in-Some-fault_unless_mark.is in
    sym (sym c.loop-symbol.invariant ∙ marks_fault_from text n c.in-Some.symbol turn.0 turn.1
    ∙ ap (λ o. elim o [ Some fault ↦ Some fault | None ↦ text_fault (without_marks (drop (n + 1) text)) ]) some)

pub returns : goal.returns
returns c =
    let text = chars c.args.text.now in
    let end = YieldsList-end (YieldsList-from_chars c.args.text.now c.utf8.text cc) c.loop-symbol.yielded _ c.loop-symbol.yielded_by _ _ c.in-None.is c.next.ensures.steps in
    sym (sym c.loop-symbol.invariant ∙ ap (λ t. text_fault (without_marks t)) (drop_all (length c.loop-symbol.yielded) text (omega (arith, end.1))))
