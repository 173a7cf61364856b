-- The cells have what was written of the text_parts so far.
use Rattle.std.proofs.Common.{ℕ, List, length}
use denote.Text.{Utf8}
use denote.Shadow.{shadow}
use Rattle.std.specs.Str.{chars}
use Rattle.screen.specs.Parts.{text_parts}
use Rattle.screen.proofs.Prints.{IsWritten}
use Rattle.screen.proofs.texts.write_text.Given as goal

abbrev pub invariant-loop-part : goal.invariant-loop-part
invariant-loop-part l = record {
  utf8 : shadow (Utf8 l.rest);
  done : List (List ℕ);
  written : IsWritten l.how (text_parts (chars l.fn.text)) done (text_parts (chars l.rest)) l.room l.at l.fn.style l.fn.cells l.count l.cells;
}

abbrev pub decreases-loop-part : goal.decreases-loop-part
decreases-loop-part l = length l.rest
