use Rattle.std.proofs.Common.{◌≡◌, length, take, Some, refl, ap, ◌∙◌, arith, true, cond}
use Rattle.keymap.specs.inside.Places.{are_alike, place_at}
use Rattle.keymap.specs.declared.inside.Place.{Place}
use Rattle.keymap.proofs.Placing.{all_marked, marked_to, one_marked, place_alike}
use Rattle.keymap.proofs.places.bind_at.Goals as goal

pub loop-count-preserved : goal.loop-count-preserved
loop-count-preserved g c = record {
  marked = λ keys.
      let front = take c.loop-count.count c.args.chords.now in
      let old = place_at c.args.places.now keys in
      let alike = λ (same : are_alike front keys ≡ true).
      ap (λ (p : Place). p.number) (c.place_at-place.ensures ∙ place_alike c.loop-count.places front keys same ∙ c.loop-count.invariant.marked keys) in
      c.put.ensures.places keys
      ∙ ap (cond (are_alike front keys) (record { number = c.place_at-place.result.number; begun = true })) (c.loop-count.invariant.marked keys)
      ∙ one_marked c.args.chords.now keys c.loop-count.count (are_alike front keys) c.place_at-place.result old c.loop-count-test.true refl alike;
  room = let used = c.put.ensures.room in let room = c.loop-count.invariant.room in omega arith;
}

pub returns : goal.returns
returns g c = λ keys.
    let chords = c.args.chords.now in
    let old = place_at c.args.places.now keys in
    let end : c.loop-count.count ≡ length chords = let most = c.loop-count.auto.count-end in let least = c.loop-count-test.false in omega arith in
    let marked = c.loop-count.invariant.marked keys ∙ ap (λ n. marked_to chords n old keys) end in
    let alike = λ (same : are_alike chords keys ≡ true).
    ap (λ (p : Place). p.begun) (c.place_at-place-2.ensures ∙ place_alike c.loop-count.places chords keys same ∙ marked) in
    c.put-2.ensures.places keys
    ∙ ap (cond (are_alike chords keys) (record { number = Some c.args.number; begun = c.place_at-place-2.result.begun })) marked
    ∙ all_marked chords keys c.args.number (are_alike chords keys) c.place_at-place-2.result old refl alike
