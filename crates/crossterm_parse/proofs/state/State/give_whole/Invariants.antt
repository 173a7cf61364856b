use Rattle.std.proofs.Common.{◌-◌, length, take}
use Rattle.crossterm_parse.specs.Putting.{PutsOn, TakesFront, Through}
use Rattle.crossterm_parse.proofs.state.State.give_whole.Given as goal

-- the bytes before this place were put in
abbrev pub invariant-loop-place : goal.invariant-loop-place
invariant-loop-place g l = record {
  front : TakesFront (g.O.Outlet.room l.initial.outlet) (g.O.Outlet.room l.outlet) l.bytes l.place l.initial.steps l.steps;
  puts : Through g.O.Outlet.given (λ old new. PutsOn l.raw old new (take l.place l.bytes)) l.self l.self l.initial.outlet l.outlet;
}

abbrev pub decreases-loop-place : goal.decreases-loop-place
decreases-loop-place g l = length l.bytes - l.place
