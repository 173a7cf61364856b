use Rattle.std.proofs.Common.{◌≡◌, ◌++◌, length}
use denote.Text.{Utf8}
use denote.Shadow.{shadow}
use Rattle.std.specs.String.{string_bytes}
use Rattle.std.specs.Str.{chars}
use Rattle.line_editor.specs.Cases.{cased}
use Rattle.line_editor.proofs.cases.cased.Given as goal

abbrev pub invariant-loop-c : goal.invariant-loop-c
invariant-loop-c g l = record {
  utf8 : shadow (Utf8 l.rest);
  same : cased l.fn.case (chars l.fn.text) ≡ chars (string_bytes l.new) ++ cased l.case (chars l.rest);
}

abbrev pub decreases-loop-c : goal.decreases-loop-c
decreases-loop-c g l = length l.rest
