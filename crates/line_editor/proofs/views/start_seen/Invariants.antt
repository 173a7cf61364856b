use Rattle.std.proofs.Common.{◌≡◌, ◌≤◌, ◌-◌}
use Rattle.std.specs.Str.{IsCharBoundary}
use Rattle.unicode_segmentation.specs.Segments.{chars_before, chars_from}
use Rattle.line_editor.specs.Splits.{split_at}
use Rattle.line_editor.specs.Views.{furthest, start, start_at}
use Rattle.line_editor.proofs.views.start_seen.Given as goal

abbrev pub invariant-loop-place : goal.invariant-loop-place
invariant-loop-place l = record {
  boundary : IsCharBoundary l.text l.place;
  best_boundary : IsCharBoundary l.text l.best.0;
  back : l.place ≤ l.at;
  best_back : l.best.0 ≤ l.at;
  few : l.used ≤ l.room - 1;
  best_few : l.best.1 ≤ 65535;
  same : start l.room (split_at l.text l.at)
      ≡ furthest (l.room - 1) l.used (chars_before l.text l.place) (chars_from l.text l.place) (start_at l.text l.best);
}

abbrev pub decreases-loop-place : goal.decreases-loop-place
decreases-loop-place l = l.place
