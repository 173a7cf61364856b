use Rattle.std.proofs.Common.{◌≤◌, ◌+◌, ◌-◌, length}
use Rattle.std.specs.List.{AllWithin}
use Rattle.line_editor.specs.inside.Ascii.{IsPrintable}
use Rattle.line_editor.proofs.views.ascii_ahead.Given as goal

abbrev pub invariant-loop-count : goal.invariant-loop-count
invariant-loop-count l = record {
  on : l.at + l.count ≤ length l.text;
  few : l.count ≤ l.most;
  printable : AllWithin IsPrintable l.text l.at (l.at + l.count);
}

abbrev pub decreases-loop-count : goal.decreases-loop-count
decreases-loop-count l = l.most - l.count
