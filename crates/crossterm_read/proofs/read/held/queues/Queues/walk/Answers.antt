use Rattle.std.proofs.Common.{refl, sym, ◌∙◌}
use Rattle.crossterm_types.specs.Seen.{seen}
use Rattle.crossterm_read.specs.inside.Kinds.{queue_place}
use Rattle.crossterm_read.specs.inside.Queues.{queue_of}
use Rattle.crossterm_read.proofs.Joining.{drop_more, fewer_left, walked_all, walked_found, walked_on}
use Rattle.crossterm_read.proofs.read.held.queues.Queues.walk.Goals as goal

pub returns-then-eval : goal.returns-then-eval
returns-then-eval g c =
    walked_found (λ m. g.F.Filter.admits c.args.filter.now (seen m.event)) (queue_of c.args.self.now) c.loop-front.at c.loop-front.invariant
    c.in-Some.front _ c.in-Some.ensures (sym c.eval.ensures ∙ c.if-eval.true) refl c.of.ensures

pub loop-front-smaller : goal.loop-front-smaller
loop-front-smaller g c =
    let q = queue_of c.args.self.now in
    let kind = c.in-Some.front.kind in
    fewer_left q q c.loop-front.at c.after-at.result kind (drop_more (q kind) (queue_place c.loop-front.at kind) _ _ c.in-Some.ensures.1.1) (λ k. refl) c.after-at.ensures

pub loop-front-preserved : goal.loop-front-preserved
loop-front-preserved g c =
    walked_on (λ m. g.F.Filter.admits c.args.filter.now (seen m.event)) (queue_of c.args.self.now) c.loop-front.at c.loop-front.invariant
    c.in-Some.front c.after-at.result c.in-Some.ensures (sym c.eval.ensures ∙ c.if-eval.false) c.after-at.ensures

pub returns : goal.returns
returns g c =
    walked_all (λ m. g.F.Filter.admits c.args.filter.now (seen m.event)) (queue_of c.args.self.now) c.loop-front.at c.loop-front.invariant c.in_default.ensures
