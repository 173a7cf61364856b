use Rattle.std.proofs.Common.{arith}
use Rattle.screen.specs.Areas.{covering}
use Rattle.screen.proofs.Edges.{covered_more, covered_none, stamped_size}
use Rattle.screen.proofs.buffers.Buffer.cover.Goals as goal

pub returns-then-area-eq0 : goal.returns-then-area-eq0
returns-then-area-eq0 g c = covered_none c.args.self.now c.args.style.now c.args.area.now c.args.symbol c.args.area.now.height c.if-area-eq0.true

pub across-requires-clause-place : goal.across-requires-clause-place
across-requires-clause-place g c =
    let r = c.args.area.now in
    let size = stamped_size c.args.self.now c.loop-k.self c.args.style.now (covering r c.args.symbol c.loop-k.k) c.loop-k.invariant in
    (omega (arith, size.0, c.requires.columns, c.if-area-eq0.false), omega (arith, size.1, c.requires.rows, c.loop-k-test.true))

pub loop-k-preserved : goal.loop-k-preserved
loop-k-preserved g c =
    covered_more c.args.self.now c.loop-k.self c.across.new.self c.args.style.now c.args.area.now c.args.symbol c.loop-k.k c.loop-k.invariant c.across.ensures
