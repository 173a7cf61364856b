use Rattle.std.proofs.Common.{true, [], ◌∷◌, ◌++◌, map, inr, refl, Ok, Some, ◌∙◌, arith, length-append}
use Rattle.std.proofs.lemmas.List.{length-map, map-append}
use Rattle.crossterm_read.specs.Answers.{Gave}
use Rattle.crossterm_c.proofs.HeldLaws.{all_gave, takes_before}
use Rattle.crossterm_c.proofs.laws.holding_and_taking_is_reading.Goals as goal

pub returns-clause-read : goal.returns-clause-read
returns-clause-read c f passed event s m t x none before here arrives takes =
    let all = passed ++ event ∷ [] in
    let count = length-map all Gave ∙ length-append passed (event ∷ []) in
    (Ok true, m, inr (none, record { before = map Gave passed; event = event; all = map-append Gave passed (event ∷ []); passed = all_gave f _ (λ e h. h) passed before; admitted = here }, omega (arith, count)), arrives, (Some x, takes, refl))

pub returns-clause-more : goal.returns-clause-more
returns-clause-more c = takes_before
