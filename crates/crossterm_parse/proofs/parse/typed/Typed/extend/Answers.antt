use Rattle.std.proofs.Common.{arith, ap, length, take, drop, ◌≡◌, ◌+◌, ◌-◌, ◌++◌, ◌∙◌, ℕ, List}
use Rattle.std.proofs.lemmas.List.{take_all}
use Rattle.crossterm_parse.specs.inside.Queue.{TypedView}
use Rattle.crossterm_parse.proofs.QueueLaws.{more_between}
use Rattle.crossterm_parse.proofs.parse.typed.Typed.extend.Goals as goal

pub returns : goal.returns
returns c =
    let old = c.self.inside in
    let new = c.loop-i.self-inside in
    let inv = c.loop-i.invariant in
    let letters = c.args.letters.now in
    let count = length letters in
    let all : c.loop-i.i ≡ count = omega (arith, c.loop-i-test.false, c.loop-i.auto.i-end) in
    let behind : old.end + count ≡ new.end + c.loop-i.i = omega (arith, inv.end, all) in
    let is : take (old.end + count) new.places ≡ take old.end old.places ++ letters =
    ap (λ n. take n new.places) behind ∙ inv.places ∙ ap (λ (xs : List ℕ). take old.end old.places ++ xs) (take_all c.loop-i.i letters (omega (arith, all))) in
    let fits = c.self.invariant in
    ap (λ a. take (old.end + count - a) (drop a new.places)) inv.at
    ∙ more_between old.places new.places letters old.at old.end count fits.0 (omega (arith, fits.1, fits.2)) is
    ∙ ap (λ (t : TypedView). t.waiting ++ letters) c.self.view_is
