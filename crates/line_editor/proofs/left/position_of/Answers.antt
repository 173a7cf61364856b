use Rattle.std.proofs.Common.{◌∙◌, ap, sym, arith}
use Rattle.std.proofs.lemmas.Bool.{false≢true, ne_eqb}
use Rattle.line_editor.specs.States.{LeftLine}
use Rattle.line_editor.proofs.Leaving.{place_here, place_none, place_past}
use Rattle.line_editor.proofs.left.position_of.Goals as goal
use Rattle.line_editor.proofs.left.position_of.Goals.{in-Some+else-line-place, in_default}

pub returns-then-line-place : goal.returns-then-line-place
returns-then-line-place g c =
    let m = c.in-Some.line.now in
    let here = ap (λ (y : LeftLine). y.place) (sym c.line.view_is) ∙ c.if-line-place.true in
    sym (c.loop-at.invariant ∙ place_here c.args.place c.args.left.now.items c.loop-at.at c.in-Some.ensures.item.3.0 m c.in-Some.ensures.item.1 here)

pub loop-at-preserved : goal.loop-at-preserved
loop-at-preserved g c =
    elim c.match-get.branch [
      | in-Some+else-line-place w ↦
          let m = w.in-Some.line.now in
          let past = ne_eqb m.place c.args.place (λ same. w.if-line-place.false (ap (λ (y : LeftLine). y.place) w.line.view_is ∙ same)) in
          c.loop-at.invariant ∙ place_past c.args.place c.args.left.now.items c.loop-at.at w.in-Some.ensures.item.3.0 m w.in-Some.ensures.item.1 past
      | in_default w ↦ absurd (false≢true (w.in_default.ensures.variant.1 (omega (arith, c.loop-at-test.true, c.len-at-end.ensures))))
    ]

pub returns : goal.returns
returns g c =
    sym (c.loop-at.invariant ∙ place_none c.args.place c.args.left.now.items c.loop-at.at (omega (arith, c.loop-at-test.false, c.len-at-end.ensures)))
