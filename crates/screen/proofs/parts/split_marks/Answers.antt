use Rattle.std.proofs.Common.{◌≡◌, ◌≤◌, true, length, sym, ap, ◌∙◌, subst, arith, rules}
use Rattle.std.proofs.lemmas.Bool.Decides.{nat_tests}
use Rattle.std.specs.Str.{chars}
use Rattle.screen.specs.Marks.{is_mark_of, most_marks}
use Rattle.screen.specs.inside.FirstParts.{HoldsMarks, first_marks}
use Rattle.screen.proofs.Marking.{mark_is_high}
use Rattle.screen.proofs.Parting.{Holds, holds_full, marks_with}
use Rattle.screen.proofs.parts.split_marks.Goals as goal

pub push-requires : goal.push-requires
push-requires c =
    let mark : is_mark_of c.loop-symbol.last c.in-Some.symbol ≡ true = sym c.is_mark_of.ensures ∙ c.if-not-is_mark_of.false in
    omega (arith, mark_is_high c.loop-symbol.last c.in-Some.symbol mark)

pub loop-symbol-preserved-then-not-push : goal.loop-symbol-preserved-then-not-push
loop-symbol-preserved-then-not-push c =
    let all = first_marks c.args.before (chars c.args.text.now) in
    let last = c.loop-symbol.last in
    let symbol = c.in-Some.symbol in
    let back = chars c.in-Some.back.now in
    let held = c.loop-symbol.marks in
    let mark : is_mark_of last symbol ≡ true = sym c.is_mark_of.ensures ∙ c.if-not-is_mark_of.false in
    let before = subst (λ m. Holds c.loop-symbol.is_long held m all) (ap (first_marks last) c.in-Some.ensures.0 ∙ marks_with last symbol back mark) c.loop-symbol.invariant.held in
    let full : most_marks ≤ length held = grind (arith, nat_tests) in
    record {
      utf8 = search rules;
      held = subst (λ t. HoldsMarks true t all) (sym c.if-not-push.ensures.marks) (holds_full c.loop-symbol.is_long held (first_marks symbol back) all symbol before full);
      back = search rules;
      len = omega (arith, c.in-Some.ensures.1, c.loop-symbol.invariant.len);
    }
