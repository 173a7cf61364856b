use Rattle.std.proofs.Common.{sym, ap, ◌∙◌}
use Rattle.std.specs.List.{list_any}
use Rattle.std.specs.Option.{is_some}
use Rattle.keymap.specs.Bindings.{are_same, bound_of}
use Rattle.keymap.specs.declared.inside.Place.{Place}
use Rattle.keymap.proofs.Placing.{has_number, right_some}
use Rattle.keymap.proofs.bindings.Keymap.is_taken.Goals as goal

pub returns-in-Some : goal.returns-in-Some
returns-in-Some g c =
    let chords = c.args.chords.now in
    let bound = ap bound_of (sym c.self.view_is) in
    c.is_some.ensures ∙ ap (λ (p : Place). is_some p.number) (c.place_at.ensures ∙ right_some _ c.self.inside.places c.in-Some.places c.in-Some.is c.self.invariant.1 chords)
    ∙ has_number 0 _ chords ∙ ap (list_any (λ other. are_same other chords)) (sym bound)
