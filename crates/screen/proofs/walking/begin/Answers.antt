use Rattle.std.proofs.Common.{subst}
use Rattle.screen.specs.declared.steps.Step.TheVariants as step
use Rattle.screen.specs.inside.Blocks.{PutsTokens, step_tokens}
use Rattle.screen.proofs.RowSteps.{begun_unknown, puts_then}
use Rattle.screen.proofs.walking.begin.Goals as goal

pub returns-then-known-eq0-clause-tokens : goal.returns-then-known-eq0-clause-tokens
returns-then-known-eq0-clause-tokens g c =
    let held = g.W.Write.contents in
    let old = held c.args.writer.now in
    let settled = held c.put_step.new.writer in
    let now = held c.put_step-then-known-eq0.new.writer in
    subst (λ ts. PutsTokens ts old c.args.pen.now now c.put_step-then-known-eq0.new.pen) (begun_unknown c.args.known c.args.column c.in-None.is c.if-known-eq0.true)
    (puts_then (step_tokens step.Settle) (step_tokens step.Erase) old settled now c.args.pen.now c.put_step.new.pen c.put_step-then-known-eq0.new.pen c.put_step.ensures c.put_step-then-known-eq0.ensures)
