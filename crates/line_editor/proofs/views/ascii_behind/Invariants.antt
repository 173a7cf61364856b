use Rattle.std.proofs.Common.{◌≤◌, ◌-◌}
use Rattle.std.specs.List.{AllWithin}
use Rattle.line_editor.specs.inside.Ascii.{IsPrintable}
use Rattle.line_editor.proofs.views.ascii_behind.Given as goal

abbrev pub invariant-loop-count : goal.invariant-loop-count
invariant-loop-count l = record {
  back : l.count ≤ l.at;
  few : l.count ≤ l.most;
  printable : AllWithin IsPrintable l.text (l.at - l.count) l.at;
}

abbrev pub decreases-loop-count : goal.decreases-loop-count
decreases-loop-count l = l.at - l.count
