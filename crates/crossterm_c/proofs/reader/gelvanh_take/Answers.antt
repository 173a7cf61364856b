use Rattle.std.proofs.Common.{List, ◌+◌, ◌-◌, get_or, refl, sym, ap, ◌∙◌}
use Rattle.std.specs.List.{position, remove}
use Rattle.crossterm_c.specs.Held.{admits, held_in}
use Rattle.crossterm_c.specs.declared.held.GelvanhHeld.{GelvanhHeld}
use Rattle.crossterm_c.proofs.HeldLaws.{part_is, place_of_first, takes}
use Rattle.crossterm_c.proofs.reader.gelvanh_take.Goals as goal

pub returns-in-Some-clause-step : goal.returns-in-Some-clause-step
returns-in-Some-clause-step c texts =
    let held = c.span-first.ensures.held in
    let part = part_is c.args.table.now c.span-first.result.0 c.span-first.result.1 ∙ held in
    let first = sym (c.first_of.ensures ∙ ap (λ (l : List GelvanhHeld). position (admits c.args.classes) l) part) ∙ c.in-Some.is in
    let this = sym (ap (λ (l : List GelvanhHeld). get_or l c.in-Some.at c.take_at.result) held) ∙ c.take_at.ensures.this in
    let others = c.take_at.ensures.others ∙ ap (λ (l : List GelvanhHeld). remove l c.in-Some.at) held in
    takes c.args.classes texts c.args.reader.now
    (record { first = c.span-first.result.0 + 1; held = c.span-first.result.1 - 1; arrivals = c.args.reader.now.arrivals })
    c.args.table.now c.take_at.new.table c.in-Some.at c.take_at.result first this others refl

pub returns-in-Some-clause-kept : goal.returns-in-Some-clause-kept
returns-in-Some-clause-kept c took =
    let held = c.span-first.ensures.held in
    let part = part_is c.args.table.now c.span-first.result.0 c.span-first.result.1 ∙ held in (
      c.in-Some.at,
      sym (c.first_of.ensures ∙ ap (λ (l : List GelvanhHeld). position (admits c.args.classes) l) part) ∙ c.in-Some.is,
      sym (ap (λ (l : List GelvanhHeld). get_or l c.in-Some.at c.take_at.result) held) ∙ c.take_at.ensures.this,
      c.take_at.ensures.others ∙ ap (λ (l : List GelvanhHeld). remove l c.in-Some.at) held,
    )

pub returns-in-None-clause-step : goal.returns-in-None-clause-step
returns-in-None-clause-step c texts =
    let part = part_is c.args.table.now c.span-first.result.0 c.span-first.result.1 ∙ c.span-first.ensures.held in
    let first = c.first_of.ensures ∙ ap (λ (l : List GelvanhHeld). position (admits c.args.classes) l) part in
    (place_of_first c.args.classes texts (held_in c.args.reader.now c.args.table.now) ∙ sym first ∙ c.in-None.is, refl)
