use Rattle.std.proofs.Common.{◌≡◌, ◌++◌, false, length}
use denote.Text.{Utf8}
use denote.Shadow.{shadow}
use Rattle.std.specs.Prelude.{encode_utf8_all}
use Rattle.std.specs.String.{string_bytes}
use Rattle.std.specs.Str.{chars}
use Rattle.line_editor.specs.History.{unescaped}
use Rattle.line_editor.proofs.history.unescaped.Given as goal

abbrev pub invariant-loop-c : goal.invariant-loop-c
invariant-loop-c g l = record {
  utf8 : shadow (Utf8 l.rest);
  same : encode_utf8_all (unescaped false (chars l.fn.text)) ≡ string_bytes l.new ++ encode_utf8_all (unescaped l.behind (chars l.rest));
}

abbrev pub decreases-loop-c : goal.decreases-loop-c
decreases-loop-c g l = length l.rest
