-- A text is inserted at a line's cursor.
use Rattle.std.proofs.Common.{◌≡◌, ℕ, ◌-◌, List, length, refl, subst, true}
use Rattle.std.specs.List.{insert_slice}
use Rattle.std.specs.Str.{chars, IsUtf8, IsCharBoundary}
use Rattle.unicode_segmentation.specs.Segments.{chars_before, chars_from}
use Rattle.line_editor.specs.Edits.{inserted}
use Rattle.line_editor.specs.Places.{is_between}
use Rattle.line_editor.specs.Shown.{AreRows}
use Rattle.line_editor.specs.Splits.{ahead, split_at}
use Rattle.line_editor.proofs.Settling.{Placed, ahead-Placed, split_at-joined}
use Rattle.line_editor.proofs.Showing.{shown-spliced}

module _ (text with new old end : List ℕ) (at found : ℕ) (same : text ≡ old) (last : new ≡ end)
    (u : IsUtf8 text) (v : IsUtf8 with) (b : IsCharBoundary old at) (e : end ≡ insert_slice old at with)
    (first : split_at new found ≡ ahead is_between (chars_before new (length new - (length text - at))) (chars_from new (length new - (length text - at)))) where
  pub inserted-Placed : IsCharBoundary new found → Placed end found
  inserted-Placed boundary = ahead-Placed new end (length new - (length text - at)) found last boundary first

  pub split_at-inserted : split_at end found ≡ inserted (chars with) (split_at old at)
  split_at-inserted =
      split_at-joined old with new end at at (length new - (length text - at)) found last (subst IsUtf8 same u) v b b e (rw (same, last) refl) first

  pub inserted-shown : AreRows (chars old) → AreRows (chars with) → AreRows (chars end)
  inserted-shown h k = shown-spliced true old with end at at (subst IsUtf8 same u) v b b h k e
