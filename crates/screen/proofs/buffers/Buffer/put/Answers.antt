use Rattle.std.proofs.Common.{rules, ◌≡◌, ◌+◌, ◌*◌, ◌<◌, ◌≤◌, ◌∷◌, [], ap, ◌∙◌, length}
use Rattle.screen.specs.Cells.{shown_text}
use Rattle.screen.specs.Overwriting.{cells_with, overwritten}
use Rattle.screen.specs.Texts.{columns}
use Rattle.screen.proofs.Fitting.{held_alone}
use Rattle.screen.proofs.Taking.{symbol_kept}
use Rattle.screen.proofs.buffers.Buffer.put.Goals as goal

pub invariant_of-self : goal.invariant_of-self
invariant_of-self g c =
    let w = c.self.inside.width in
    let h = c.self.inside.height in
    let items = c.self.inside.cells.items in
    let old = c.deref_mut.result.now in
    let count : length items ≡ c.self.inside.cells.len = search rules in
    let same : old ≡ items = search rules in
    let below : c.args.row < h = search rules in
    let fits : c.args.column + columns c.args.cell.symbol ≤ w = search rules in
    let cell = c.args.cell in
    let alone : shown_text cell ≡ cell.symbol ∷ [] = ap (λ l. cell.symbol ∷ l) c.requires.alone in
    let at : c.place_at-at.result ≡ c.args.row * w + c.args.column = c.place_at-at.ensures in
    symbol_kept cell.style (cell.symbol ∷ []) w h c.self.inside.cells.len c.args.row c.args.column c.place_at-at.result items old c.overwrite.new.cells count c.self.invariant.0 c.self.invariant.1 same below
    fits (held_alone cell.symbol c.requires.printed) at (c.overwrite.ensures ∙ ap (λ l. overwritten old c.place_at-at.result (cells_with cell.style l)) alone)
