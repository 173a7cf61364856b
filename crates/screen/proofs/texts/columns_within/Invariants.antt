-- The text_parts so far have room.
use Rattle.std.proofs.Common.{length}
use denote.Text.{Utf8}
use denote.Shadow.{shadow}
use Rattle.std.specs.Str.{chars}
use Rattle.screen.specs.Parts.{text_parts}
use Rattle.screen.proofs.Alignments.{IsCounted}
use Rattle.screen.proofs.texts.columns_within.Given as goal

abbrev pub invariant-loop-part : goal.invariant-loop-part
invariant-loop-part l = record {
  utf8 : shadow (Utf8 l.rest);
  counted : IsCounted (text_parts (chars l.fn.text)) (text_parts (chars l.rest)) l.room l.used;
}

abbrev pub decreases-loop-part : goal.decreases-loop-part
decreases-loop-part l = length l.rest
