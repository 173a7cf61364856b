use Rattle.std.proofs.Common.{◌≡◌, ◌≤◌, ◌-◌, length}
use Rattle.std.specs.Str.{IsCharBoundary}
use Rattle.unicode_segmentation.specs.Segments.{chars_from}
use Rattle.line_editor.specs.Words.{unblanked}
use Rattle.line_editor.proofs.places.unblanked_behind.Given as goal

abbrev pub invariant-loop-place : goal.invariant-loop-place
invariant-loop-place l = record {
  boundary : IsCharBoundary l.text l.place;
  on : l.at ≤ l.place;
  same : unblanked (chars_from l.text l.at) ≡ unblanked (chars_from l.text l.place);
}

abbrev pub decreases-loop-place : goal.decreases-loop-place
decreases-loop-place l = length l.text - l.place
