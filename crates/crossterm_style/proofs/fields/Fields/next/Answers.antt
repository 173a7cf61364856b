use Rattle.std.proofs.Common.{ap, arith, ◌∙◌}
use Rattle.crossterm_style.specs.Fields.{fields_left}
use Rattle.crossterm_style.proofs.FieldLaws.{split_none, split_some}
use Rattle.crossterm_style.proofs.fields.Fields.next.Goals as goal

pub returns-in-Some-split_once : goal.returns-in-Some-split_once
returns-in-Some-split_once c =
    ap fields_left c.in-Some.is ∙ split_some _ _ _ (c.in-Some-split_once.ensures.byte (omega arith) (λ w o f. f))

pub returns-in-None-split_once : goal.returns-in-None-split_once
returns-in-None-split_once c =
    ap fields_left c.in-Some.is ∙ split_none _ (c.in-None-split_once.ensures.byte (omega arith) (λ w o f. f))
