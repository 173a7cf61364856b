use Rattle.std.proofs.Common.{◌≡◌, map, Some, refl, sym, ap, ◌∙◌, subst}
use Rattle.std.specs.IoError.{error_kind}
use Rattle.std.specs.Option.{option_map}
use Rattle.crossterm_types.specs.Seen.{seen_event}
use Rattle.crossterm_types.specs.Timing.{IsFirst}
use Rattle.crossterm_read.specs.PassViews.{knows}
use Rattle.keymap.specs.Matching.{Matching, MatcherState, IsFlushed}
use Rattle.keymap.specs.Stepping.{Steps, Gave, Failed, waited, idle, unread, came}
use Rattle.keymap.specs.Taking.{TakesEvent}
use Rattle.keymap.specs.Outcomes.{outcome_seen}
use Rattle.keymap.specs.inside.Giving.{state_of}
use Rattle.keymap.specs.inside.Room.{matcher_of}
use Rattle.keymap.proofs.Rooms.{IsRoomy, kept_is, roomy_is, whole_after}
use Rattle.keymap.proofs.Steps.{takes}
use Rattle.keymap.proofs.matching.Matcher.step.Goals as goal

pub returns-in-Some-clause-step : goal.returns-in-Some-clause-step
returns-in-Some-clause-step g c =
    let new = matcher_of c.self.inside.keymap c.self.inside.passes c.self.inside.undecided c.pop.new.waiting in
    subst (λ (m : MatcherState). Steps g.S.EventSource.drawn g.S.EventSource.asked c.args.limit (IsFirst g.C.Clock.latest g.C.Clock.began c.args.clock.now c.args.clock.now) (g.C.Clock.latest c.args.clock.now) m (knows c.args.pass.now) new (knows c.args.pass.now) (Gave (Some (outcome_seen c.in-Some.outcome)))) c.self.view_is
    (waited (outcome_seen c.in-Some.outcome)
    (takes c.self.inside.keymap c.self.inside.passes c.self.inside.undecided (map outcome_seen c.self.inside.waiting.items) (map outcome_seen c.pop.new.waiting.items) (Some (outcome_seen c.in-Some.outcome)) c.in-Some.ensures.first)
    (kept_is c.self.inside.waiting c.pop.new.waiting c.pop.ensures.capacity) refl refl)

pub returns-in-Err-read_for-clause-step : goal.returns-in-Err-read_for-clause-step
returns-in-Err-read_for-clause-step g c =
    let none = c.in-None.ensures.first in
    let roomed : IsRoomy 8 c.self.inside.waiting c.pop.new.waiting c.make_room.new.waiting = record {
      none = none.0;
      none_still = none.1;
      kept = c.pop.ensures.capacity;
      items = c.make_room.ensures.items;
      made = c.in-Ok.ensures.made;
    } in
    let new = matcher_of c.self.inside.keymap c.self.inside.passes c.self.inside.undecided c.make_room.new.waiting in
    subst (λ (m : MatcherState). Steps g.S.EventSource.drawn g.S.EventSource.asked c.args.limit (IsFirst g.C.Clock.latest g.C.Clock.began c.args.clock.now c.read_for.new.clock) (g.C.Clock.latest c.read_for.new.clock) m (knows c.args.pass.now) new (knows c.read_for.new.pass) (Failed (error_kind c.in-Err-read_for.error))) c.self.view_is
    (unread none.0 (roomy_is c.self.inside.keymap c.self.inside.passes c.self.inside.undecided 8 c.self.inside.waiting c.pop.new.waiting c.make_room.new.waiting roomed) c.in-Err-read_for.error c.in-Err-read_for.ensures.call refl)

pub returns-in-Ok-Some-clause-step : goal.returns-in-Ok-Some-clause-step
returns-in-Ok-Some-clause-step g c =
    let none = c.in-None.ensures.first in
    let roomed : IsRoomy 8 c.self.inside.waiting c.pop.new.waiting c.make_room.new.waiting = record {
      none = none.0;
      none_still = none.1;
      kept = c.pop.ensures.capacity;
      items = c.make_room.ensures.items;
      made = c.in-Ok.ensures.made;
    } in
    let old = state_of c.self.inside.keymap c.self.inside.passes c.self.inside.undecided c.self.inside.waiting.items in
    let roomy = state_of c.self.inside.keymap c.self.inside.passes c.self.inside.undecided c.make_room.new.waiting.items in
    let taken = state_of c.self.inside.keymap c.self.inside.passes c.take_event.new.keys c.take_event.new.waiting.items in
    let new = matcher_of c.self.inside.keymap c.self.inside.passes c.take_event.new.keys c.pop-came.new.waiting in
    let same : roomy ≡ old = ap (λ items. record { keymap = c.self.inside.keymap; passes = c.self.inside.passes; undecided = c.self.inside.undecided; waiting = items }) (ap (map outcome_seen) c.make_room.ensures.items ∙ none.1 ∙ sym none.0) in
    subst (λ (m : MatcherState). Steps g.S.EventSource.drawn g.S.EventSource.asked c.args.limit (IsFirst g.C.Clock.latest g.C.Clock.began c.args.clock.now c.read_for.new.clock) (g.C.Clock.latest c.read_for.new.clock) m (knows c.args.pass.now) new (knows c.read_for.new.pass) (Gave (option_map outcome_seen c.pop-came.result))) c.self.view_is
    (came none.0 (seen_event c.in-Ok-Some.event) (rw c.in-Ok-Some.field-0-is at c.in-Ok-Some.ensures).call taken (subst (λ (m : Matching). TakesEvent m (seen_event c.in-Ok-Some.event) taken) same c.take_event.ensures.taken)
    (option_map outcome_seen c.pop-came.result) (takes c.self.inside.keymap c.self.inside.passes c.take_event.new.keys (map outcome_seen c.take_event.new.waiting.items) (map outcome_seen c.pop-came.new.waiting.items) (option_map outcome_seen c.pop-came.result) c.pop-came.ensures.first)
    (whole_after 8 c.self.inside.waiting c.pop.new.waiting c.make_room.new.waiting c.pop-came.new.waiting roomed (c.pop-came.ensures.capacity ∙ c.take_event.ensures.capacity)) refl)

pub returns-in-Ok-None-clause-step : goal.returns-in-Ok-None-clause-step
returns-in-Ok-None-clause-step g c =
    let none = c.in-None.ensures.first in
    let roomed : IsRoomy 8 c.self.inside.waiting c.pop.new.waiting c.make_room.new.waiting = record {
      none = none.0;
      none_still = none.1;
      kept = c.pop.ensures.capacity;
      items = c.make_room.ensures.items;
      made = c.in-Ok.ensures.made;
    } in
    let old = state_of c.self.inside.keymap c.self.inside.passes c.self.inside.undecided c.self.inside.waiting.items in
    let roomy = state_of c.self.inside.keymap c.self.inside.passes c.self.inside.undecided c.make_room.new.waiting.items in
    let flushed = state_of c.self.inside.keymap c.self.inside.passes c.flush.new.keys c.flush.new.waiting.items in
    let new = matcher_of c.self.inside.keymap c.self.inside.passes c.flush.new.keys c.pop-left.new.waiting in
    let same : roomy ≡ old = ap (λ items. record { keymap = c.self.inside.keymap; passes = c.self.inside.passes; undecided = c.self.inside.undecided; waiting = items }) (ap (map outcome_seen) c.make_room.ensures.items ∙ none.1 ∙ sym none.0) in
    subst (λ (m : MatcherState). Steps g.S.EventSource.drawn g.S.EventSource.asked c.args.limit (IsFirst g.C.Clock.latest g.C.Clock.began c.args.clock.now c.read_for.new.clock) (g.C.Clock.latest c.read_for.new.clock) m (knows c.args.pass.now) new (knows c.read_for.new.pass) (Gave (option_map outcome_seen c.pop-left.result))) c.self.view_is
    (idle none.0 (rw c.in-Ok-None.field-0-is at c.in-Ok-None.ensures).call flushed (subst (λ (m : Matching). IsFlushed m flushed) same (c.flush.ensures.flushed c.self.inside.passes)) (option_map outcome_seen c.pop-left.result)
    (takes c.self.inside.keymap c.self.inside.passes c.flush.new.keys (map outcome_seen c.flush.new.waiting.items) (map outcome_seen c.pop-left.new.waiting.items) (option_map outcome_seen c.pop-left.result) c.pop-left.ensures.first)
    (whole_after 8 c.self.inside.waiting c.pop.new.waiting c.make_room.new.waiting c.pop-left.new.waiting roomed (c.pop-left.ensures.capacity ∙ c.flush.ensures.capacity)) refl)
