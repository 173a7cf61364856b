use Rattle.std.proofs.Common.{rules, ◌≡◌, length, ap, ◌∙◌}
use Rattle.screen.specs.Buffers.{fill_cells}
use Rattle.screen.proofs.Filling.{fill_kept}
use Rattle.screen.proofs.buffers.Buffer.fill.Goals as goal

pub invariant_of-self : goal.invariant_of-self
invariant_of-self g c =
    let items = c.self.inside.cells.items in
    let old = c.deref_mut.result.now in
    let count : length items ≡ c.self.inside.cells.len = search rules in
    let same : old ≡ items = search rules in
    fill_kept c.self.inside.width c.self.inside.height c.self.inside.cells.len c.args.symbol c.args.style items old c.fill_rows.new.cells count c.self.invariant.0 same
    (c.symbol_fault.ensures.printed c.in_default.is)
    (c.fill_rows.ensures ∙ ap (λ cell. fill_cells c.self.inside.width (length old) cell.symbol cell.style) c.new.ensures)
