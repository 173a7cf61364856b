use Rattle.std.proofs.Common.{◌≡◌, ◌+◌, ◌*◌, ◌≤◌, length}
use denote.Text.{Utf8}
use denote.Shadow.{shadow}
use Rattle.std.specs.Str.{chars}
use Rattle.line_editor.specs.Bounds.{size}
use Rattle.line_editor.specs.Cases.{cased}
use Rattle.line_editor.proofs.cases.cased_len.Given as goal

abbrev pub invariant-loop-c : goal.invariant-loop-c
invariant-loop-c l = record {
  utf8 : shadow (Utf8 l.rest);
  same : size (cased l.fn.case (chars l.fn.text)) ≡ l.len + size (cased l.case (chars l.rest));
  few : l.len + 4 * length l.rest ≤ 4 * length l.fn.text;
}

abbrev pub decreases-loop-c : goal.decreases-loop-c
decreases-loop-c l = length l.rest
