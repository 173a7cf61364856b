use Rattle.std.proofs.Common.{List, ◌∙◌, ◌<◌, ◌+◌, ◌-◌, sym, ap, arith, length, length-set, subst, take, drop}
use Rattle.crossterm_c.specs.Held.{TakesEach}
use Rattle.crossterm_c.specs.declared.held.GelvanhHeld.{GelvanhHeld}
use Rattle.crossterm_c.proofs.HeldLaws.{behind_one, front_taken, member_of, part_left}
use Rattle.crossterm_c.proofs.batches.take_front.Goals as goal

pub loop-count-preserved : goal.loop-count-preserved
loop-count-preserved c =
    let n = c.loop-count.count in
    let held = take c.span-first.result.1 (drop c.span-first.result.0 c.args.table.now) in
    let size = ap (λ (l : List GelvanhHeld). length l) c.span-first.ensures.held ∙ c.span-first.ensures.count in
    let most : n < c.min-most.result = c.loop-count-test.true in
    record {
      within = omega (arith, most);
      takes = front_taken c.args.classes held c.loop-count.taken n _ (omega (arith, most, c.min-most.ensures, size)) (omega (arith, most, c.min-most.ensures, c.loop-count.invariant.room))
          (member_of c.args.table.now c.span-first.result.0 c.span-first.result.1 n (omega (arith, most, c.min-most.ensures)) (omega (arith, most, c.min-most.ensures, c.span-first.ensures.within)))
          (sym c.is_admitted.ensures ∙ c.if-is_admitted.true) c.loop-count.invariant.takes;
      rest = behind_one c.loop-count.taken c.args.taken.now n _ c.loop-count.invariant.rest;
      room = length-set c.loop-count.taken n _ ∙ c.loop-count.invariant.room;
    }

pub returns-then-count-gt0-clause-takes : goal.returns-then-count-gt0-clause-takes
returns-then-count-gt0-clause-takes c =
    let n = c.loop-count.count in
    let left = part_left c.args.table.now c.span-first.result.0 c.span-first.result.1 n (omega (arith, c.loop-count.invariant.within, c.min-most.ensures)) in
    subst (λ (held : List GelvanhHeld). TakesEach c.args.classes held (take n c.loop-count.taken) (take (c.span-first.result.1 - n) (drop (c.span-first.result.0 + n) c.args.table.now))) c.span-first.ensures.held
    (subst (λ (rest : List GelvanhHeld). TakesEach c.args.classes (take c.span-first.result.1 (drop c.span-first.result.0 c.args.table.now)) (take n c.loop-count.taken) rest) left c.loop-count.invariant.takes)
