-- Cells can hold the text_parts so far.
use Rattle.std.proofs.Common.{◌≡◌, length}
use denote.Text.{Utf8}
use denote.Shadow.{shadow}
use Rattle.std.specs.Str.{chars}
use Rattle.screen.specs.Parts.{text_parts}
use Rattle.screen.specs.Texts.{text_fault}
use Rattle.screen.proofs.texts.text_fault.Given as goal

abbrev pub invariant-loop-part : goal.invariant-loop-part
invariant-loop-part l = record {
  utf8 : shadow (Utf8 l.rest);
  same : text_fault (text_parts (chars l.rest)) ≡ text_fault (text_parts (chars l.fn.text));
}

abbrev pub decreases-loop-part : goal.decreases-loop-part
decreases-loop-part l = length l.rest
