-- The character is in so many rows.
use Rattle.std.proofs.Common.{◌≡◌}
use Rattle.screen.specs.Areas.{covering}
use Rattle.screen.specs.Borders.{with_stamps}
use Rattle.screen.proofs.buffers.Buffer.cover.Given as goal

abbrev pub invariant-loop-k : goal.invariant-loop-k
invariant-loop-k g l = l.self ≡ with_stamps l.fn.self l.style (covering l.area l.symbol l.k)
