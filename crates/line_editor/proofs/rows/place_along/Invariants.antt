use Rattle.std.proofs.Common.{◌≡◌, ◌≤◌, ◌-◌, length}
use Rattle.std.specs.Str.{IsCharBoundary}
use Rattle.unicode_segmentation.specs.Segments.{chars_before, chars_from}
use Rattle.line_editor.specs.Rows.{place_along}
use Rattle.line_editor.proofs.rows.place_along.Given as goal

abbrev pub invariant-loop-place : goal.invariant-loop-place
invariant-loop-place l = record {
  boundary : IsCharBoundary l.text l.place;
  on : l.at ≤ l.place;
  same : place_along l.columns (chars_before l.text l.at) (chars_from l.text l.at) ≡ place_along l.room (chars_before l.text l.place) (chars_from l.text l.place);
}

abbrev pub decreases-loop-place : goal.decreases-loop-place
decreases-loop-place l = length l.text - l.place
