-- The character was set so many times.
use Rattle.std.proofs.Common.{◌≡◌}
use Rattle.screen.specs.Borders.{down, with_stamps}
use Rattle.screen.proofs.buffers.Buffer.down.Given as goal

abbrev pub invariant-loop-k : goal.invariant-loop-k
invariant-loop-k g l = l.self ≡ with_stamps l.fn.self l.style (down l.column l.row l.k l.symbol)
