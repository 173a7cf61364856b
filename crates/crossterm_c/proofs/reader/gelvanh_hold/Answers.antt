use Rattle.std.proofs.Common.{List, ◌+◌, ◌∷◌, ◌++◌, [], ap, ◌∙◌}
use Rattle.crossterm_c.specs.declared.held.GelvanhHeld.{GelvanhHeld}
use Rattle.crossterm_c.proofs.HeldLaws.{arrives}
use Rattle.crossterm_c.proofs.reader.gelvanh_hold.Goals as goal

pub returns-clause-held : goal.returns-clause-held
returns-clause-held c _ texts =
    let behind = ap (λ (l : List GelvanhHeld). l ++ record { event = c.args.event.now; arrival = c.args.reader.now.arrivals } ∷ []) (c.make_room-first.ensures.held ∙ c.span-first.ensures.held) in
    arrives texts c.args.reader.now (record { first = c.make_room-first.result; held = c.span-first.result.1 + 1; arrivals = c.saturating_add.result }) c.args.table.now c.put_behind.new.table c.args.event.now
    (c.put_behind.ensures ∙ behind) c.saturating_add.ensures
