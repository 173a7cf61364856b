use Rattle.std.proofs.Common.{◌≡◌, ◌-◌, length, true}
use Rattle.std.specs.List.{list_all}
use Rattle.std.specs.Str.{IsCharBoundary}
use Rattle.unicode_segmentation.specs.Segments.{chars_before}
use Rattle.line_editor.proofs.Loading.{is_within}
use Rattle.line_editor.proofs.history.first_line.Given as goal

abbrev pub invariant-loop-end : goal.invariant-loop-end
invariant-loop-end l = record {
  boundary : IsCharBoundary l.text l.end;
  within : list_all is_within (chars_before l.text l.end) ≡ true;
}

abbrev pub decreases-loop-end : goal.decreases-loop-end
decreases-loop-end l = length l.text - l.end
