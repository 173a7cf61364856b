use Rattle.std.proofs.Common.{rules, ◌≡◌, ◌+◌, [], false, arith, ap, refl, sym, ◌∙◌, subst, take}
use Rattle.crossterm_parse.specs.States.{is_paste}
use Rattle.crossterm_parse.specs.Putting.{PutsAll, PutsByte, Through}
use Rattle.std.proofs.lemmas.Bool.{false≢true}
use Rattle.crossterm_parse.specs.Marked.{marked}
use Rattle.crossterm_parse.specs.View.{AdvancesOver}
use Rattle.crossterm_parse.specs.declared.state.State.{State}
use Rattle.crossterm_parse.proofs.RunLaws.{advance_still}
use Rattle.crossterm_parse.proofs.ViewLaws.{advance_more, advance_none}
use Rattle.crossterm_parse.proofs.TakingLaws.{through_join, through_none, through_run}
use Rattle.crossterm_parse.proofs.state.State.take.Goals as goal

pub loop-place-init : goal.loop-place-init
loop-place-init g c = record {
  front = record { within = omega arith; room = omega arith; steps = omega arith };
  divided = through_none g.O.Outlet.given (λ old new. AdvancesOver old new []) c.args.self.now c.args.self.now c.args.outlet.now c.args.outlet.now (g.met.O.Outlet.given_none c.args.outlet.now)
      (λ w. advance_none _);
  opens = λ outside is. absurd (false≢true (sym outside ∙ is));
  none = λ is. (refl, refl);
}

pub returns-then-place-piece-clause-divided : goal.returns-then-place-piece-clause-divided
returns-then-place-piece-clause-divided g c =
    through_run g.O.Outlet.given c.args.self.now c.loop-place.self c.run-place.new.self c.args.outlet.now c.loop-place.outlet c.run-place.new.outlet c.args.piece.now c.args.more c.args.raw
    c.loop-place.place c.run-place.result g.met.O.Outlet.given_on (omega (arith, c.run-place.ensures.front.within)) c.loop-place.invariant.divided c.run-place.ensures.puts

pub returns-then-not-step-clause-divided : goal.returns-then-not-step-clause-divided
returns-then-not-step-clause-divided g c =
    let given = g.O.Outlet.given in
    let s = c.args.self.now in
    let t = c.run-place.new.self in
    let o = c.args.outlet.now in
    let taken = take (c.loop-place.place + c.run-place.result) (marked c.args.piece.now c.args.more c.args.raw) in
    let ran = through_run given s c.loop-place.self t o c.loop-place.outlet c.run-place.new.outlet c.args.piece.now c.args.more c.args.raw
    c.loop-place.place c.run-place.result g.met.O.Outlet.given_on (omega (arith, c.run-place.ensures.front.within)) c.loop-place.invariant.divided c.run-place.ensures.puts in
    let no = c.if-not-step.ensures.no (search rules) in
    let still = through_none given (λ old new. PutsAll old new []) t t c.run-place.new.outlet c.step.new.outlet no.1 (λ w. (refl, refl, refl)) in
    subst (λ (u : State). Through given (λ old new. AdvancesOver old new taken) s u o c.step.new.outlet) (sym no.0)
    (through_join given (λ old new. AdvancesOver old new taken) (λ old new. PutsAll old new []) (λ old new. AdvancesOver old new taken)
    s t t o c.run-place.new.outlet c.step.new.outlet g.met.O.Outlet.given_on (λ old mid new before same. advance_still old mid new taken same before) ran still)

pub loop-place-preserved : goal.loop-place-preserved
loop-place-preserved g c =
    let given = g.O.Outlet.given in
    let piece = c.args.piece.now in
    let more = c.args.more in
    let raw = c.args.raw in
    let at = c.loop-place.place + c.run-place.result in
    let outside : is_paste c.loop-place.self ≡ false = search rules in
    let s = c.args.self.now in
    let t = c.run-place.new.self in
    let ran = through_run given s c.loop-place.self t c.args.outlet.now c.loop-place.outlet c.run-place.new.outlet piece more raw
    c.loop-place.place c.run-place.result g.met.O.Outlet.given_on (omega (arith, c.run-place.ensures.front.within)) c.loop-place.invariant.divided c.run-place.ensures.puts in
    record {
      front = record {
        within = omega arith;
        room = omega (arith, c.step.ensures.room, c.run-place.ensures.front.room, c.loop-place.invariant.front.room);
        steps = omega (arith, c.count.ensures, c.run-place.ensures.front.steps, c.loop-place.invariant.front.steps);
      };
      divided = through_join given (λ old new. AdvancesOver old new (take at (marked piece more raw))) (λ old new. PutsByte old new _ raw c.pauses-pause.result)
          (λ old new. AdvancesOver old new (take (at + 1) (marked piece more raw))) s t c.step.new.self c.args.outlet.now c.run-place.new.outlet c.step.new.outlet g.met.O.Outlet.given_on
          (λ old mid new before puts. advance_more old mid new piece more raw at _ c.pauses-pause.result (omega arith) refl c.pauses-pause.ensures puts.0 puts.1 puts.2 before)
          ran (c.if-not-step.ensures.yes (search rules));
      opens = λ outside is. omega arith;
      none = λ was. absurd (false≢true (sym outside ∙ ap (λ (u : State). is_paste u) (c.loop-place.invariant.none was).1 ∙ was));
    }
