use Rattle.std.proofs.Common.{List, length, ap, ◌∙◌, take, drop, sym, arith, length-take, get_or}
use Rattle.std.proofs.lemmas.List.{get_or_default, length-drop}
use Rattle.std.specs.List.{remove}
use Rattle.crossterm_c.specs.declared.held.GelvanhHeld.{GelvanhHeld}
use Rattle.crossterm_c.proofs.HeldLaws.{no_member, part_is, rest_of}
use Rattle.crossterm_c.proofs.held.take_at.Goals as goal

pub returns-clause-others : goal.returns-clause-others
returns-clause-others c =
    let part = part_is c.args.table.now c.args.first c.args.held in
    let size = length-take c.args.held (drop c.args.first c.args.table.now) in
    let left = length-drop c.args.first c.args.table.now in
    rest_of c.args.table.now c.move_first.new.held c.args.first c.args.held c.requires.within (c.move_first.ensures.room ∙ ap (λ (l : List GelvanhHeld). length l) part ∙ omega (arith, size, left)) (omega arith)
    ∙ c.move_first.ensures.others ∙ ap (λ (l : List GelvanhHeld). remove l c.args.at) part

pub returns-clause-this : goal.returns-clause-this
returns-clause-this c =
    let held = take c.args.held (drop c.args.first c.args.table.now) in
    let part = part_is c.args.table.now c.args.first c.args.held in
    let size = length-take c.args.held (drop c.args.first c.args.table.now) in
    let left = length-drop c.args.first c.args.table.now in
    get_or_default held c.args.at _ no_member (omega (arith, size, left))
    ∙ sym (ap (λ (l : List GelvanhHeld). get_or l c.args.at no_member) part) ∙ sym (c.move_first.ensures.this no_member)
