use Rattle.std.proofs.Common.{◌≡◌, ◌<◌, ◌-◌, true, false, length, take}
use Rattle.crossterm_parse.specs.States.{is_paste}
use Rattle.crossterm_parse.specs.Putting.{TakesFront, Through}
use Rattle.crossterm_parse.specs.Marked.{marked}
use Rattle.crossterm_parse.specs.View.{AdvancesOver}
use Rattle.crossterm_parse.proofs.state.State.take.Given as goal

-- the bytes before this one were taken
abbrev pub invariant-loop-place : goal.invariant-loop-place
invariant-loop-place g l = record {
  front : TakesFront (g.O.Outlet.room l.initial.outlet) (g.O.Outlet.room l.outlet) l.piece l.place l.initial.steps l.steps;
  divided : Through g.O.Outlet.given (λ old new. AdvancesOver old new (take l.place (marked l.piece l.more l.raw))) l.initial.self l.self l.initial.outlet l.outlet;
  opens : is_paste l.initial.self ≡ false → is_paste l.self ≡ true → 0 < l.place;
  none : is_paste l.initial.self ≡ true → (l.place ≡ 0) × (l.self ≡ l.initial.self);
}

abbrev pub decreases-loop-place : goal.decreases-loop-place
decreases-loop-place g l = length l.piece - l.place
