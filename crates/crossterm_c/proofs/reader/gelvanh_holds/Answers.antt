use Rattle.std.proofs.Common.{List, sym, ap, ◌∙◌}
use Rattle.std.specs.Prelude.{is_some}
use Rattle.std.specs.List.{position}
use Rattle.crossterm_c.specs.Held.{admits, held_in}
use Rattle.crossterm_c.specs.declared.held.GelvanhHeld.{GelvanhHeld}
use Rattle.crossterm_c.proofs.HeldLaws.{part_is, place_of_first}
use Rattle.crossterm_c.proofs.reader.gelvanh_holds.Goals as goal

pub returns : goal.returns
returns c texts =
    let part = part_is c.args.table.now c.span-first.result.0 c.span-first.result.1 ∙ c.span-first.ensures.held in
    let first = c.first_of.ensures ∙ ap (λ (l : List GelvanhHeld). position (admits c.args.classes) l) part in
    c.is_some.ensures ∙ ap is_some (first ∙ sym (place_of_first c.args.classes texts (held_in c.args.reader.now c.args.table.now)))
