use Rattle.std.proofs.Common.{◌≡◌, ◌≤◌}
use Rattle.std.specs.Str.{IsCharBoundary}
use Rattle.unicode_segmentation.specs.Segments.{chars_before}
use Rattle.line_editor.specs.Words.{unblanked}
use Rattle.line_editor.proofs.places.unblanked_before.Given as goal

abbrev pub invariant-loop-place : goal.invariant-loop-place
invariant-loop-place l = record {
  boundary : IsCharBoundary l.text l.place;
  on : l.place ≤ l.at;
  same : unblanked (chars_before l.text l.at) ≡ unblanked (chars_before l.text l.place);
}

abbrev pub decreases-loop-place : goal.decreases-loop-place
decreases-loop-place l = l.place
