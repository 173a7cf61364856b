use Rattle.std.proofs.Common.{◌≡◌, ◌+◌, ◌∙◌, ap, arith, subst, suc}
use Rattle.screen.specs.declared.steps.Step.TheVariants as step
use Rattle.screen.specs.Blocks.{more_rows}
use Rattle.screen.specs.inside.Blocks.{PutsTokens, step_tokens}
use Rattle.screen.proofs.RowSteps.{one_row_more, puts_nothing, puts_then}
use Rattle.screen.proofs.walking.add_rows.Goals as goal

pub loop-init : goal.loop-init
loop-init g c = puts_nothing (g.W.Write.contents c.args.writer.now) c.args.pen.now

pub loop-preserved : goal.loop-preserved
loop-preserved g c =
    let held = g.W.Write.contents in
    let old = held c.args.writer.now in
    let k = c.loop.counter in
    let next : suc k ≡ k + 1 = omega arith in
    subst (λ ts. PutsTokens ts old c.args.pen.now (held c.put_step.new.writer) c.put_step.new.pen) (one_row_more k ∙ ap more_rows next)
    (puts_then (more_rows k) (step_tokens step.Add) old (held c.loop.writer) (held c.put_step.new.writer) c.args.pen.now c.loop.pen c.put_step.new.pen c.loop.invariant c.put_step.ensures)

pub returns : goal.returns
returns g c =
    let held = g.W.Write.contents in
    let all : c.loop.counter ≡ c.args.count = omega (arith, c.loop.auto.counter-end, c.loop-test.false) in
    subst (λ n. PutsTokens (more_rows n) (held c.args.writer.now) c.args.pen.now (held c.loop.writer) c.loop.pen) all c.loop.invariant
