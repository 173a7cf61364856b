use Rattle.std.proofs.Common.{◌∷◌, ap, arith, sym, ◌∙◌}
use Rattle.std.specs.Prelude.{bit_or}
use Rattle.crossterm_flags.specs.Variants.{value_in}
use Rattle.keymap.specs.Spelling as spec
use Rattle.keymap.proofs.Words.{empty_is, parts_more, parts_one, read_none, read_word}
use Rattle.keymap.proofs.spelling.+read_parts.Goals as goal

pub returns-in-None : goal.returns-in-None
returns-in-None k c = c.read_key.ensures ∙ sym (ap (λ l. spec.read_parts c.args.bits l) (parts_one _ (c.in-None.ensures.byte (omega arith) (λ w o f. f))))

pub returns-else-is_empty-2 : goal.returns-else-is_empty-2
returns-else-is_empty-2 k c =
    let more = parts_more _ _ _ (c.in-Some.ensures.byte (omega arith) (λ w o f. f)) in
    let none = ap (λ w. w ∷ spec.hyphen_parts c.in-Some.rest.now) (empty_is c.in-Some.word.now c.if-is_empty.ensures) in
    sym (ap (λ l. spec.read_parts c.args.bits l) (more ∙ none) ∙ read_none c.args.bits c.in-Some.rest.now c.if-is_empty-2.ensures)

pub returns-in-Some-value_in : goal.returns-in-Some-value_in
returns-in-Some-value_in k c =
    let more = parts_more _ _ _ (c.in-Some.ensures.byte (omega arith) (λ w o f. f)) in
    let bit = sym (c.in-Some-value_in.ensures ∙ ap (λ t. value_in t c.in-Some.word.now) c.modifier_words.ensures) in
    c.read_parts.ensures
    ∙ sym (ap (λ l. spec.read_parts c.args.bits l) more ∙ read_word c.args.bits c.in-Some.word.now c.in-Some.rest.now c.if-is_empty.ensures
    ∙ ap (λ v. spec.read_modifier v (λ bit. spec.read_parts (bit_or c.args.bits bit) (spec.hyphen_parts c.in-Some.rest.now))) bit)

pub returns-in-None-value_in : goal.returns-in-None-value_in
returns-in-None-value_in k c =
    let more = parts_more _ _ _ (c.in-Some.ensures.byte (omega arith) (λ w o f. f)) in
    let none = sym (c.in-None-value_in.ensures ∙ ap (λ t. value_in t c.in-Some.word.now) c.modifier_words.ensures) in
    sym (ap (λ l. spec.read_parts c.args.bits l) more ∙ read_word c.args.bits c.in-Some.word.now c.in-Some.rest.now c.if-is_empty.ensures
    ∙ ap (λ v. spec.read_modifier v (λ bit. spec.read_parts (bit_or c.args.bits bit) (spec.hyphen_parts c.in-Some.rest.now))) none)
