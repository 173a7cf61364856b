use Rattle.std.proofs.Common.{◌≡◌, length}
use denote.Text.{Utf8}
use denote.Shadow.{shadow}
use Rattle.std.specs.Str.{chars}
use Rattle.line_editor.specs.Shown.{AreRows}
use Rattle.line_editor.specs.States.{behind_front}
use Rattle.line_editor.proofs.texts.behind_front.Given as goal

abbrev pub invariant-loop-c : goal.invariant-loop-c
invariant-loop-c l = record {
  utf8 : shadow (Utf8 l.wanted);
  rest_utf8 : shadow (Utf8 l.rest);
  shown : AreRows (chars l.fn.text) → AreRows (chars l.rest);
  same : behind_front (chars l.fn.front) (chars l.fn.text) ≡ behind_front (chars l.wanted) (chars l.rest);
}

abbrev pub decreases-loop-c : goal.decreases-loop-c
decreases-loop-c l = length l.wanted
