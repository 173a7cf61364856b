use Rattle.std.proofs.Common.{◌-◌, length, ap, true}
use Rattle.line_editor.proofs.Settling.{ahead-Placed, split_at-joined}
use Rattle.line_editor.proofs.Showing.{shown-spliced}
use Rattle.line_editor.proofs.lines.edited.Goals as goal

pub invariant_of-result : goal.invariant_of-result
invariant_of-result g c =
    let moved = c.ahead-at.ensures in
    let whole = c.as_str-whole.result.now in
    let placed = ahead-Placed whole _ (length whole - (length c.args.text.now - c.args.to)) _ c.as_str-whole.ensures.value moved.boundary moved.first in
    (placed.0, placed.1, shown-spliced true c.args.text.now c.args.with.now _ c.args.from c.args.to c.utf8.text c.utf8.with c.requires.from c.requires.to c.requires.text c.requires.with c.in_ok-new.ensures)

pub returns : goal.returns
returns g c =
    let moved = c.ahead-at.ensures in
    let whole = c.as_str-whole.result.now in
    split_at-joined c.args.text.now c.args.with.now whole _ c.args.from c.args.to (length whole - (length c.args.text.now - c.args.to)) _ c.as_str-whole.ensures.value
    c.utf8.text c.utf8.with c.requires.from c.requires.to c.in_ok-new.ensures (ap (λ n. n - (length c.args.text.now - c.args.to)) (ap length c.as_str-whole.ensures.value)) moved.first
