use Rattle.std.proofs.Common.{rules, ◌≡◌, ◌%◌, ◌≤◌, length, arith}
use Rattle.std.proofs.lemmas.List.FromFn.{fill_by_all}
use Rattle.screen.specs.Buffers.{pair_cell}
use Rattle.screen.specs.Cells.{blank}
use Rattle.screen.proofs.overwriting.fill_pairs.Goals as goal

pub returns : goal.returns
returns c =
    let n = length c.args.cells.now in
    let same : length c.loop-at.cells ≡ n = search rules in
    let all : n ≤ c.loop-at.at = search rules in
    fill_by_all (λ k. pair_cell c.args.width c.args.cell.now.symbol c.args.cell.now.style (k % c.args.width)) c.loop-at.cells n blank same (λ k lt. c.loop-at.invariant k (omega (arith, lt, all)))
