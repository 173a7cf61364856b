use Rattle.std.proofs.Common.{◌∷◌, arith, ap, sym, ◌∙◌}
use Rattle.crossterm_style.specs.Values.{three_of}
use Rattle.crossterm_style.proofs.MarkLaws.{comma_none, comma_some, more_fields, some_field}
use Rattle.crossterm_style.proofs.value.marks.three.Goals as goal

pub returns-in_default : goal.returns-in_default
returns-in_default c = sym (ap three_of (comma_none _ (c.in_default.ensures.byte (omega arith) (λ w o f. f))))

pub returns-in_default-split_once : goal.returns-in_default-split_once
returns-in_default-split_once c =
    let one = comma_some _ _ _ (c.in-Some.ensures.byte (omega arith) (λ w o f. f)) in
    let two = comma_none _ (c.in_default-split_once.ensures.byte (omega arith) (λ w o f. f)) in
    sym (ap three_of (one ∙ ap (λ l. c.in-Some.first.now ∷ l) two))

pub returns-in-Some-split_once-2 : goal.returns-in-Some-split_once-2
returns-in-Some-split_once-2 c =
    let one = comma_some _ _ _ (c.in-Some.ensures.byte (omega arith) (λ w o f. f)) in
    let two = comma_some _ _ _ (c.in-Some-split_once.ensures.byte (omega arith) (λ w o f. f)) in
    let three = comma_some _ _ _ (c.in-Some-split_once-2.ensures.byte (omega arith) (λ w o f. f)) in
    sym (ap three_of (one ∙ ap (λ l. c.in-Some.first.now ∷ l) (two ∙ ap (λ l. c.in-Some-split_once.second.now ∷ l) three)) ∙ more_fields _ _ _ _ (some_field c.in-Some-split_once-2.field-0.1.now))

pub returns-in-None : goal.returns-in-None
returns-in-None c =
    let one = comma_some _ _ _ (c.in-Some.ensures.byte (omega arith) (λ w o f. f)) in
    let two = comma_some _ _ _ (c.in-Some-split_once.ensures.byte (omega arith) (λ w o f. f)) in
    let three = comma_none _ (c.in-None.ensures.byte (omega arith) (λ w o f. f)) in
    sym (ap three_of (one ∙ ap (λ l. c.in-Some.first.now ∷ l) (two ∙ ap (λ l. c.in-Some-split_once.second.now ∷ l) three)))
