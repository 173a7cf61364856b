use Rattle.std.proofs.Common.{◌≡◌, ◌++◌, map, refl, ap, ◌∙◌, subst}
use Rattle.keymap.specs.Bindings.{bound_of}
use Rattle.keymap.specs.Cut.{cut_keys}
use Rattle.keymap.specs.Matching.{MatcherState, IsFlushed, outcome_capacity, with_room}
use Rattle.keymap.specs.Outcomes.{outcome_seen}
use Rattle.keymap.specs.inside.Giving.{state_of}
use Rattle.keymap.specs.inside.Room.{matcher_of}
use Rattle.keymap.proofs.Giving.{flushed}
use Rattle.keymap.proofs.Rooms.{whole_is}
use Rattle.keymap.proofs.matching.Matcher.flush.Goals as goal

pub returns-clause-ok : goal.returns-clause-ok
returns-clause-ok g c =
    let bound = bound_of c.self.inside.keymap in
    let old = state_of c.self.inside.keymap c.self.inside.passes c.self.inside.undecided c.self.inside.waiting.items in
    let new = state_of c.self.inside.keymap c.self.inside.passes c.give_all.new.keys c.give_all.new.waiting.items in
    subst (λ (m : MatcherState). IsFlushed m.matching new) c.self.view_is
    (flushed old new refl refl (c.give_all.ensures.waiting ∙ ap (λ items. map outcome_seen items ++ cut_keys bound c.self.inside.undecided) c.make_room.ensures.items) c.give_all.ensures.keys)

pub returns-clause-room : goal.returns-clause-room
returns-clause-room g c =
    let new = matcher_of c.self.inside.keymap c.self.inside.passes c.give_all.new.keys c.give_all.new.waiting in
    subst (λ (m : MatcherState). outcome_capacity new ≡ outcome_capacity (with_room 7 m)) c.self.view_is
    (whole_is 7 c.self.inside.waiting c.make_room.new.waiting c.give_all.new.waiting c.make_room.ensures.items c.in-Ok.ensures.made c.give_all.ensures.capacity)
