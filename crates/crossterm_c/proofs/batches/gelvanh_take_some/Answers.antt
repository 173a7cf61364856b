use Rattle.std.proofs.Common.{rules, Bool, ℕ, List, [], ◌∙◌, sym, ap, arith, inr, subst, take, drop, length, length-set}
use Rattle.std.proofs.lemmas.List.{take_more_set}
use Rattle.std.specs.List.{position}
use Rattle.crossterm_types.specs.Admitting.{is_of}
use Rattle.crossterm_read.specs.Steps.{TakeReplies}
use Rattle.crossterm_c.specs.Held.{TakesEach, admits, classes_at, held_in, store_at, taken_at}
use Rattle.crossterm_c.specs.declared.held.GelvanhHeld.{GelvanhHeld}
use Rattle.crossterm_c.specs.declared.held.GelvanhReader.{GelvanhReader}
use Rattle.crossterm_c.proofs.HeldLaws.{behind_one, place_of_first, put_back, takes_more}
use Rattle.crossterm_c.proofs.batches.gelvanh_take_some.Goals as goal

pub loop-count-preserved : goal.loop-count-preserved
loop-count-preserved c =
    let n = c.loop-count.count in
    let held = held_in c.loop-count.reader c.loop-count.table in
    let left = held_in c.gelvanh_take.new.reader c.gelvanh_take.new.table in
    let kept = c.gelvanh_take.ensures.kept (search rules) in
    record {
      within = omega (arith, c.loop-count-test.true, length-set c.loop-count.taken n c.gelvanh_take.new.taken);
      takes = subst (λ (ts : List GelvanhHeld). TakesEach c.args.classes (held_in c.args.reader.now c.args.table.now) ts left) (sym (take_more_set c.loop-count.taken n c.gelvanh_take.new.taken c.loop-count-test.true))
          (takes_more c.args.classes (held_in c.args.reader.now c.args.table.now) (take n c.loop-count.taken) held left c.gelvanh_take.new.taken c.loop-count.invariant.takes kept);
      arrivals = c.gelvanh_take.ensures.arrivals ∙ c.loop-count.invariant.arrivals;
      rest = behind_one c.loop-count.taken c.args.taken.now n c.gelvanh_take.new.taken c.loop-count.invariant.rest;
      room = length-set c.loop-count.taken n c.gelvanh_take.new.taken ∙ c.loop-count.invariant.room;
      none = λ e. absurd (omega (arith, e));
    }

pub returns-then-not-gelvanh_take-clause-takes : goal.returns-then-not-gelvanh_take-clause-takes
returns-then-not-gelvanh_take-clause-takes c =
    let n = c.loop-count.count in
    let same = c.gelvanh_take.ensures.none (search rules) in
    let back = put_back c.loop-count.taken n c.gelvanh_take.new.taken same.2 in
    let held = held_in c.args.reader.now c.args.table.now in
    subst (λ (ts : List GelvanhHeld). TakesEach c.args.classes held (take n ts) (held_in c.gelvanh_take.new.reader c.gelvanh_take.new.table)) (sym back)
    (subst (λ (r : GelvanhReader). TakesEach c.args.classes held (take n c.loop-count.taken) (held_in r c.gelvanh_take.new.table)) (sym same.0)
    (subst (λ (t : List GelvanhHeld). TakesEach c.args.classes held (take n c.loop-count.taken) (held_in c.loop-count.reader t)) (sym same.1) c.loop-count.invariant.takes))

pub returns-then-not-gelvanh_take-clause-all : goal.returns-then-not-gelvanh_take-clause-all
returns-then-not-gelvanh_take-clause-all c =
    let same = c.gelvanh_take.ensures.none (search rules) in
    let bits = c.args.classes in
    let none : ℕ → List ℕ = λ _. [] in
    let step = subst (λ (took : Bool). TakeReplies (is_of (classes_at bits)) (store_at none c.loop-count.reader c.loop-count.table) (store_at none c.gelvanh_take.new.reader c.gelvanh_take.new.table)
    (taken_at none took c.gelvanh_take.new.taken)) c.if-not-gelvanh_take.true (c.gelvanh_take.ensures.step none) in
    inr (ap (λ (r : GelvanhReader). position (admits bits) (held_in r c.gelvanh_take.new.table)) same.0 ∙ ap (λ (t : List GelvanhHeld). position (admits bits) (held_in c.loop-count.reader t)) same.1
    ∙ sym (place_of_first bits none (held_in c.loop-count.reader c.loop-count.table)) ∙ step.0)

pub returns-then-not-gelvanh_take-clause-rest : goal.returns-then-not-gelvanh_take-clause-rest
returns-then-not-gelvanh_take-clause-rest c =
    let n = c.loop-count.count in
    let same = c.gelvanh_take.ensures.none (search rules) in
    let back = put_back c.loop-count.taken n c.gelvanh_take.new.taken same.2 in
    (ap (λ (l : List GelvanhHeld). length l) back ∙ c.loop-count.invariant.room, ap (λ (l : List GelvanhHeld). drop n l) back ∙ c.loop-count.invariant.rest)
