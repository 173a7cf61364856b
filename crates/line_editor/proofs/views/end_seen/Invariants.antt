use Rattle.std.proofs.Common.{◌≡◌, ◌≤◌, ◌-◌, length}
use Rattle.std.specs.Str.{IsCharBoundary}
use Rattle.unicode_segmentation.specs.Segments.{chars_before, chars_from}
use Rattle.line_editor.specs.Splits.{split_at}
use Rattle.line_editor.specs.Views.{end_seen, last_seen}
use Rattle.line_editor.proofs.views.end_seen.Given as goal

abbrev pub invariant-loop-place : goal.invariant-loop-place
invariant-loop-place l = record {
  boundary : IsCharBoundary l.text l.place;
  best_boundary : IsCharBoundary l.text l.best;
  on : l.at ≤ l.place;
  best_on : l.at ≤ l.best;
  few : l.used ≤ 65535;
  same : end_seen l.room l.column (split_at l.text l.at)
      ≡ last_seen l.room l.used (chars_before l.text l.place) (chars_from l.text l.place) (split_at l.text l.best);
}

abbrev pub decreases-loop-place : goal.decreases-loop-place
decreases-loop-place l = length l.text - l.place
