use Rattle.std.proofs.Common.{ℕ, [], ◌+◌, ◌-◌, arith, refl, subst, drop, take, length}
use Rattle.crossterm_parse.specs.Putting.{PutsOn, Through}
use Rattle.crossterm_parse.proofs.RunLaws.{on_after, on_still}
use Rattle.crossterm_parse.proofs.TakingLaws.{through_join, through_none}
use Rattle.crossterm_parse.proofs.state.State.give_whole.Goals as goal

pub loop-place-init : goal.loop-place-init
loop-place-init g c = record {
  front = record { within = omega arith; room = omega arith; steps = omega arith };
  puts = through_none g.O.Outlet.given (λ old new. PutsOn c.args.raw old new []) c.args.self.now c.args.self.now c.args.outlet.now c.args.outlet.now (g.met.O.Outlet.given_none c.args.outlet.now) (λ w. (refl, refl, refl));
}

pub loop-place-preserved : goal.loop-place-preserved
loop-place-preserved g c =
    let bytes = c.args.bytes.now in
    let place = c.loop-place.place in
    let count = c.give_front-count.result in
    let s = c.args.self.now in
    record {
      front = record {
        within = omega (arith, c.give_front-count.ensures.front.within);
        room = omega (arith, c.give_front-count.ensures.front.room, c.loop-place.invariant.front.room);
        steps = omega (arith, c.give_front-count.ensures.front.steps, c.loop-place.invariant.front.steps);
      };
      puts = through_join g.O.Outlet.given (λ old new. PutsOn c.args.raw old new (take place bytes)) (λ old new. PutsOn c.args.raw old new (take count (take (length bytes - place) (drop place bytes))))
          (λ old new. PutsOn c.args.raw old new (take (place + count) bytes)) s s s c.args.outlet.now c.loop-place.outlet c.give_front-count.new.outlet g.met.O.Outlet.given_on
          (λ old mid new all more. on_after c.args.raw old mid new bytes place count all more) c.loop-place.invariant.puts c.give_front-count.ensures.puts;
    }

pub returns-then-count-eq0-clause-puts : goal.returns-then-count-eq0-clause-puts
returns-then-count-eq0-clause-puts g c =
    let bytes = c.args.bytes.now in
    let place = c.loop-place.place in
    let s = c.args.self.now in
    let rest = take (length bytes - place) (drop place bytes) in
    through_join g.O.Outlet.given (λ old new. PutsOn c.args.raw old new (take place bytes)) (λ old new. PutsOn c.args.raw old new []) (λ old new. PutsOn c.args.raw old new (take place bytes))
    s s s c.args.outlet.now c.loop-place.outlet c.give_front-count.new.outlet g.met.O.Outlet.given_on
    (λ old mid new all same. on_still c.args.raw old mid new (take place bytes) all same) c.loop-place.invariant.puts
    (subst (λ (n : ℕ). Through g.O.Outlet.given (λ old new. PutsOn c.args.raw old new (take n rest)) s s c.loop-place.outlet c.give_front-count.new.outlet) c.if-count-eq0.true c.give_front-count.ensures.puts)
