use Rattle.std.proofs.Common.{ℕ, Option, take, sym, ap, ◌∙◌, arith}
use Rattle.keymap.specs.inside.Places.{place_at}
use Rattle.keymap.specs.declared.inside.Place.{Place}
use Rattle.keymap.proofs.Deepest.{deepest_less}
use Rattle.keymap.proofs.places.longest_at.Goals as goal

pub loop-count-preserved : goal.loop-count-preserved
loop-count-preserved g c =
    let numbers : ℕ → Option ℕ = λ n. (place_at c.args.places.now (take n c.args.keys.now)).number in
    let none = ap (λ (p : Place). p.number) (sym c.place_at.ensures) ∙ c.in-None.is in
    let few = c.loop-count.invariant.few in
    let fits = c.loop-count.invariant.fits in
    record {
      found = c.loop-count.invariant.found ∙ deepest_less numbers c.loop-count.count c.loop-count-test.true none;
      few = omega arith;
      fits = omega arith;
    }
