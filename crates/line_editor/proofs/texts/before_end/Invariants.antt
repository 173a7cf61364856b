use Rattle.std.proofs.Common.{◌≡◌, length, reverse}
use denote.Text.{Utf8}
use denote.Shadow.{shadow}
use Rattle.std.specs.Str.{chars}
use Rattle.line_editor.specs.States.{behind_front}
use Rattle.line_editor.proofs.texts.before_end.Given as goal

abbrev pub invariant-loop-c : goal.invariant-loop-c
invariant-loop-c l = record {
  utf8 : shadow (Utf8 l.wanted);
  rest_utf8 : shadow (Utf8 l.rest);
  same : behind_front (reverse (chars l.fn.end)) (reverse (chars l.fn.text)) ≡ behind_front (reverse (chars l.wanted)) (reverse (chars l.rest));
}

abbrev pub decreases-loop-c : goal.decreases-loop-c
decreases-loop-c l = length l.wanted
