use Rattle.std.proofs.Common.{◌≡◌, ◌+◌, length}
use denote.Text.{Utf8}
use denote.Shadow.{shadow}
use Rattle.std.specs.Str.{chars}
use Rattle.line_editor.specs.Bounds.{size}
use Rattle.line_editor.specs.Shown.{pasted_part}
use Rattle.line_editor.proofs.shown.pasted_len.Given as goal

abbrev pub invariant-loop-c : goal.invariant-loop-c
invariant-loop-c l = record {
  utf8 : shadow (Utf8 l.rest);
  same : size (pasted_part l.multiline (chars l.fn.text)) ≡ l.len + size (pasted_part l.multiline (chars l.rest));
}

abbrev pub decreases-loop-c : goal.decreases-loop-c
decreases-loop-c l = length l.rest
