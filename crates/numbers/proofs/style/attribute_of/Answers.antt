use Rattle.std.proofs.Common.{sym, ap, ◌∙◌, slice_get}
use Rattle.std.specs.Iterator.{YieldsFirstBy}
use Rattle.std.proofs.lemmas.Iterator.Adapters.{option_map_id}
use Rattle.std.proofs.lemmas.Iterator.Consumers.{YieldsList-from_first, nth_from_yields_List}
use Rattle.crossterm_style.specs.Attributes.{all_attributes}
use Rattle.numbers.proofs.style.attribute_of.Goals as goal

pub returns : goal.returns
returns c =
    let left = YieldsList-from_first (λ a. a) (λ rest. rest) all_attributes c.iterator.ensures in
    sym (option_map_id c.nth.result)
    ∙ nth_from_yields_List {steps = YieldsFirstBy (λ a. a) (λ rest. rest)} {v = λ a. a} c.nth.result c.nth.new.self c.from.result c.nth.ensures.ran left
    ∙ ap (λ n. slice_get all_attributes n) c.from.ensures
