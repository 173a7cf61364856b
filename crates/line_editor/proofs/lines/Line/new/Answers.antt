use Rattle.std.proofs.Common.{true}
use Rattle.line_editor.proofs.Settling.{split_at-empty, empty-Placed}
use Rattle.line_editor.proofs.Showing.{shown-nothing}
use Rattle.line_editor.proofs.lines.Line.new.Goals as goal

pub invariant_of-result : goal.invariant_of-result
invariant_of-result g c =
    let placed = empty-Placed _ c.new.ensures.bytes in
    (placed.0, placed.1, shown-nothing true _ c.new.ensures.bytes)

pub returns : goal.returns
returns g c = split_at-empty _ c.new.ensures.bytes
