use Rattle.std.proofs.Common.{◌≡◌, ◌≤◌, ◌+◌, ◌*◌, length}
use Rattle.std.specs.Str.{IsCharBoundary}
use Rattle.unicode_segmentation.specs.Segments.{chars_before}
use Rattle.line_editor.specs.Rows.{columns_back}
use Rattle.line_editor.proofs.rows.columns_back.Given as goal

abbrev pub invariant-loop-place : goal.invariant-loop-place
invariant-loop-place l = record {
  boundary : IsCharBoundary l.text l.place;
  few : l.columns + 3 * l.place ≤ 3 * l.at;
  same : columns_back (chars_before l.text l.at) ≡ l.columns + columns_back (chars_before l.text l.place);
}

abbrev pub decreases-loop-place : goal.decreases-loop-place
decreases-loop-place l = l.place
