use Rattle.std.proofs.Common.{◌≡◌, ◌≤◌, ◌-◌, length}
use Rattle.std.specs.Str.{IsCharBoundary}
use Rattle.unicode_segmentation.specs.Segments.{chars_before, chars_from}
use Rattle.line_editor.specs.Rows.{ends_row}
use Rattle.line_editor.specs.Splits.{ahead}
use Rattle.line_editor.proofs.rows.row_end.Given as goal

abbrev pub invariant-loop-place : goal.invariant-loop-place
invariant-loop-place l = record {
  boundary : IsCharBoundary l.text l.place;
  on : l.at ≤ l.place;
  same : ahead ends_row (chars_before l.text l.at) (chars_from l.text l.at) ≡ ahead ends_row (chars_before l.text l.place) (chars_from l.text l.place);
}

abbrev pub decreases-loop-place : goal.decreases-loop-place
decreases-loop-place l = length l.text - l.place
