-- The cells have those of the parts so far, and then those of the parts that are left make the whole.
use Rattle.std.proofs.Common.{◌≡◌, ◌++◌, ◌≤◌, List, length}
use denote.Text.{Utf8}
use denote.Shadow.{shadow}
use Rattle.std.specs.Str.{chars}
use Rattle.std.specs.Vec.{vec_capacity}
use Rattle.screen.specs.Cells.{AreLaidOut, Cell}
use Rattle.screen.specs.Paragraphs.{wrapped}
use Rattle.screen.specs.Parts.{text_parts}
use Rattle.screen.proofs.paragraphs.push_text.Given as goal

abbrev pub invariant-loop-part : goal.invariant-loop-part
invariant-loop-part g l = record {
  utf8 : shadow (Utf8 l.rest);
  front : List Cell;
  added : l.cells.items ≡ l.fn.cells.items ++ front;
  left : l.fn.cells.items ++ wrapped l.fn.style l.width (length l.fn.cells.items) (text_parts (chars l.fn.text))
      ≡ l.cells.items ++ wrapped l.fn.style l.width (length l.cells.items) (text_parts (chars l.rest));
  laid : AreLaidOut l.width l.fn.cells.items → AreLaidOut l.width l.cells.items;
  room : vec_capacity l.fn.cells ≤ vec_capacity l.cells;
}

abbrev pub decreases-loop-part : goal.decreases-loop-part
decreases-loop-part g l = length l.rest
