use Rattle.std.proofs.Common.{◌∙◌, ap, length, sym}
use Rattle.screen.proofs.CellRows.{rows_count}
use Rattle.screen.proofs.blocks.Block.height.Goals as goal

pub returns : goal.returns
returns g c = sym (rows_count c.self.inside.width c.self.inside.height c.self.inside.shown.items) ∙ ap (λ s. length s.rows) c.self.view_is
