use Rattle.std.proofs.Common.{rules, ◌≡◌, ◌<◌, get_or, length, subst, arith}
use Rattle.std.specs.List.{AllByRecursion}
use Rattle.std.proofs.lemmas.List.{take_all}
use Rattle.screen.specs.inside.Bridges.{IsBare}
use Rattle.screen.proofs.Crossings.{bare_more}
use Rattle.screen.proofs.bridges.are_bare.Goals as goal

pub loop-cell-preserved : goal.loop-cell-preserved
loop-cell-preserved c =
    let cells = c.args.cells.now in
    let k = c.loop-cell.cell-index in
    let cell = c.cell-item.result in
    let lt : k < length cells = search rules in
    let is : get_or cells k cell ≡ cell = search rules in
    let bare : IsBare c.args.style.now cell = search rules in
    bare_more c.args.style.now cells k cell lt is bare c.loop-cell.invariant

pub returns : goal.returns
returns c =
    let cells = c.args.cells.now in
    λ e. subst (AllByRecursion (IsBare c.args.style.now)) (take_all c.loop-cell.cell-index cells (omega (arith, c.loop-cell-test.false))) c.loop-cell.invariant
