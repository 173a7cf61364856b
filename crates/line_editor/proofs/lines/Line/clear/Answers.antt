use Rattle.std.proofs.Common.{true}
use Rattle.line_editor.proofs.Settling.{split_at-empty, empty-Placed}
use Rattle.line_editor.proofs.Showing.{shown-nothing}
use Rattle.line_editor.proofs.lines.Line.clear.Goals as goal

pub invariant_of-self : goal.invariant_of-self
invariant_of-self g c =
    let placed = empty-Placed _ c.clear.ensures.bytes in
    (placed.0, placed.1, shown-nothing true _ c.clear.ensures.bytes)

pub returns : goal.returns
returns g c = split_at-empty _ c.clear.ensures.bytes
