use Rattle.std.proofs.Common.{◌≡◌, ◌++◌, map, refl, ap, ◌∙◌, subst}
use Rattle.keymap.specs.Bindings.{bound_of}
use Rattle.keymap.specs.Cut.{given, left}
use Rattle.keymap.specs.Matching.{MatcherState, IsFed, outcome_capacity, with_room}
use Rattle.keymap.specs.Outcomes.{outcome_seen}
use Rattle.keymap.specs.inside.Giving.{state_of}
use Rattle.keymap.specs.inside.Room.{matcher_of}
use Rattle.keymap.proofs.Giving.{fed}
use Rattle.keymap.proofs.Rooms.{whole_is}
use Rattle.keymap.proofs.matching.Matcher.feed.Goals as goal

pub returns-clause-ok : goal.returns-clause-ok
returns-clause-ok g c =
    let bound = bound_of c.self.inside.keymap in
    let old = state_of c.self.inside.keymap c.self.inside.passes c.self.inside.undecided c.self.inside.waiting.items in
    let new = state_of c.self.inside.keymap c.self.inside.passes c.give_decided.new.keys c.give_decided.new.waiting.items in
    subst (λ (m : MatcherState). IsFed m.matching c.args.key new) c.self.view_is
    (fed old new c.args.key refl refl c.give_decided.ensures.short
    (c.give_decided.ensures.waiting ∙ ap (λ items. map outcome_seen items ++ given bound c.push.new.self) c.make_room.ensures.items
    ∙ ap (λ keys. map outcome_seen c.self.inside.waiting.items ++ given bound keys) c.push.ensures)
    (c.give_decided.ensures.keys ∙ ap (left bound) c.push.ensures))

pub returns-clause-room : goal.returns-clause-room
returns-clause-room g c =
    let new = matcher_of c.self.inside.keymap c.self.inside.passes c.give_decided.new.keys c.give_decided.new.waiting in
    subst (λ (m : MatcherState). outcome_capacity new ≡ outcome_capacity (with_room 8 m)) c.self.view_is
    (whole_is 8 c.self.inside.waiting c.make_room.new.waiting c.give_decided.new.waiting c.make_room.ensures.items c.in-Ok.ensures.made c.give_decided.ensures.capacity)
