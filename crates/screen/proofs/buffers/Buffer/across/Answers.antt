use Rattle.std.proofs.Common.{◌+◌, arith}
use Rattle.screen.specs.Borders.{across}
use Rattle.screen.proofs.Edges.{stamped_more, stamped_size}
use Rattle.screen.proofs.buffers.Buffer.across.Goals as goal

pub stamp-requires-clause-place : goal.stamp-requires-clause-place
stamp-requires-clause-place g c =
    let size = stamped_size c.args.self.now c.loop-k.self c.args.style.now (across c.args.column c.args.row c.loop-k.k c.args.symbol) c.loop-k.invariant in
    (omega (arith, size.0, c.requires.place.0, c.loop-k-test.true), omega (arith, size.1, c.requires.place.1, c.loop-k-test.true))

pub loop-k-preserved : goal.loop-k-preserved
loop-k-preserved g c =
    stamped_more c.args.self.now c.loop-k.self c.stamp.new.self c.args.style.now (λ k. record { column = c.args.column + k; row = c.args.row; symbol = c.args.symbol }) c.loop-k.k
    c.loop-k.invariant c.stamp.ensures
