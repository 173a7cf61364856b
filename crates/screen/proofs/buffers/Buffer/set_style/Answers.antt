use Rattle.std.proofs.Common.{rules, ◌≡◌, length}
use Rattle.screen.proofs.Styling.{styled_kept}
use Rattle.screen.proofs.buffers.Buffer.set_style.Goals as goal

pub invariant_of-self : goal.invariant_of-self
invariant_of-self g c =
    let items = c.self.inside.cells.items in
    let old = c.deref_mut.result.now in
    let count : length items ≡ c.self.inside.cells.len = search rules in
    let same : old ≡ items = search rules in
    styled_kept c.self.inside.width c.self.inside.height c.self.inside.cells.len c.args.area c.args.style items old c.style_cells.new.cells count c.self.invariant.0 c.self.invariant.1 same c.style_cells.ensures
