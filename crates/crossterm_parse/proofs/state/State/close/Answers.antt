use Rattle.std.proofs.Common.{rules, ◌≡◌, [], ◌∷◌, subst, option_to_list, refl, sym, Some, Option}
use Rattle.crossterm_parse.specs.Transitions.{meaning_with}
use Rattle.crossterm_parse.specs.declared.meaning.Meaning.{Meaning}
use Rattle.crossterm_parse.proofs.state.State.close.Goals as goal

pub returns-else-not-has_room-clause-yes : goal.returns-else-not-has_room-clause-yes
returns-else-not-has_room-clause-yes g c had =
    let m = c.in-Some.meaning in
    let means : meaning_with c.args.self.now c.args.byte c.args.raw ≡ Some m = search rules in
    let given = g.met.O.Outlet.given_on c.args.outlet.now c.has_room.new.self c.give.new.self [] (m ∷ []) c.has_room.ensures.given c.give.ensures.given in
    (refl, subst (λ (o : Option Meaning). g.O.Outlet.given c.args.outlet.now (option_to_list o) c.give.new.self) (sym means) given)
