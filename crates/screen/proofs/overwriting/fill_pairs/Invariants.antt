-- The cells before the place are the pairs'.
use Rattle.std.proofs.Common.{◌≡◌, ℕ, ◌%◌, ◌<◌, get_or}
use Rattle.screen.specs.Buffers.{pair_cell}
use Rattle.screen.specs.Cells.{blank}
use Rattle.screen.proofs.overwriting.fill_pairs.Given as goal

abbrev pub invariant-loop-at : goal.invariant-loop-at
invariant-loop-at l = (k : ℕ) → k < l.at → get_or l.cells k blank ≡ pair_cell l.width l.cell.symbol l.cell.style (k % l.width)
