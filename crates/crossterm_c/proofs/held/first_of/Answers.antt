use Rattle.std.proofs.Common.{◌≡◌, false, get_or, sym, ap, ◌∙◌, arith, below_more}
use Rattle.std.proofs.lemmas.List.{get_or_default}
use Rattle.crossterm_c.specs.Held.{admits}
use Rattle.crossterm_c.proofs.HeldLaws.{found, found_none, no_member}
use Rattle.crossterm_c.proofs.held.first_of.Goals as goal

pub returns-then-is_admitted : goal.returns-then-is_admitted
returns-then-is_admitted c =
    sym (found (admits c.args.classes) c.args.held.now c.loop-place.place no_member c.loop-place-test.true (λ k. c.loop-place.invariant k no_member) (sym c.is_admitted.ensures ∙ c.if-is_admitted.true))

pub loop-place-preserved : goal.loop-place-preserved
loop-place-preserved c k d l =
    let here = ap (admits c.args.classes) (get_or_default c.args.held.now c.loop-place.place d no_member c.loop-place-test.true) ∙ sym c.is_admitted.ensures ∙ c.if-is_admitted.false in
    below_more (λ n. admits c.args.classes (get_or c.args.held.now n d) ≡ false) c.loop-place.place (λ n. c.loop-place.invariant n d) here k l

pub returns : goal.returns
returns c = sym (found_none (admits c.args.classes) c.args.held.now c.loop-place.place no_member (omega (arith, c.loop-place-test.false, c.loop-place.auto.place-end)) (λ k. c.loop-place.invariant k no_member))
