-- The character was set so many times.
use Rattle.std.proofs.Common.{◌≡◌}
use Rattle.screen.specs.Borders.{across, with_stamps}
use Rattle.screen.proofs.buffers.Buffer.across.Given as goal

abbrev pub invariant-loop-k : goal.invariant-loop-k
invariant-loop-k g l = l.self ≡ with_stamps l.fn.self l.style (across l.column l.row l.k l.symbol)
