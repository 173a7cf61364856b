use Rattle.std.proofs.Common.{◌≡◌, ◌≤◌}
use Rattle.std.specs.Str.{IsCharBoundary}
use Rattle.unicode_segmentation.specs.Segments.{chars_before, chars_from}
use Rattle.line_editor.specs.Rows.{begins_row}
use Rattle.line_editor.specs.Splits.{last_stop}
use Rattle.line_editor.proofs.rows.row_start.Given as goal

abbrev pub invariant-loop-place : goal.invariant-loop-place
invariant-loop-place l = record {
  boundary : IsCharBoundary l.text l.place;
  back : l.place ≤ l.at;
  same : last_stop begins_row (chars_before l.text l.at) (chars_from l.text l.at) ≡ last_stop begins_row (chars_before l.text l.place) (chars_from l.text l.place);
}

abbrev pub decreases-loop-place : goal.decreases-loop-place
decreases-loop-place l = l.place
