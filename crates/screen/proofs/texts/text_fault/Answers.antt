use Rattle.std.proofs.Common.{◌≡◌, [], None, Some, ap, sym, ◌∙◌, rules}
use Rattle.std.specs.Str.{chars}
use Rattle.screen.specs.Parts.{text_parts}
use Rattle.screen.specs.Texts.{part_fault, text_fault}
use Rattle.screen.proofs.texts.text_fault.Goals as goal

pub loop-part-preserved : goal.loop-part-preserved
loop-part-preserved c =
    let first = c.in-Some.ensures.0 in
    let none : part_fault first.front ≡ None = sym (c.part_fault.ensures.value first.front first.held) ∙ c.in_default-part_fault.is in
    record {
      utf8 = search rules;
      same = sym (ap (λ o. elim o [ Some fault ↦ Some fault | None ↦ text_fault (text_parts (chars c.in-Some.back.now)) ]) none) ∙ sym (ap text_fault first.first) ∙ c.loop-part.invariant.same;
    }

pub returns-in-Some-part_fault : goal.returns-in-Some-part_fault
returns-in-Some-part_fault c =
    let first = c.in-Some.ensures.0 in
    let some : part_fault first.front ≡ Some c.in-Some-part_fault.fault = sym (c.part_fault.ensures.value first.front first.held) ∙ c.in-Some-part_fault.is in
    sym (ap (λ o. elim o [ Some fault ↦ Some fault | None ↦ text_fault (text_parts (chars c.in-Some.back.now)) ]) some) ∙ sym (ap text_fault first.first) ∙ c.loop-part.invariant.same

pub returns : goal.returns
returns c =
    let end : chars c.loop-part.rest.now ≡ [] = search rules in
    sym (ap (λ t. text_fault (text_parts t)) end) ∙ c.loop-part.invariant.same
