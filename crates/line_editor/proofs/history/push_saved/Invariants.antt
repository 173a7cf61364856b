use Rattle.std.proofs.Common.{◌≡◌, ◌++◌, length}
use denote.Text.{Utf8}
use denote.Shadow.{shadow}
use Rattle.std.specs.Prelude.{encode_utf8_all}
use Rattle.std.specs.String.{string_bytes}
use Rattle.std.specs.Str.{chars}
use Rattle.line_editor.specs.History.{escaped}
use Rattle.line_editor.proofs.history.push_saved.Given as goal

abbrev pub invariant-loop-c : goal.invariant-loop-c
invariant-loop-c g l = record {
  utf8 : shadow (Utf8 l.rest);
  same : string_bytes l.fn.text ++ encode_utf8_all (escaped (chars l.line)) ≡ string_bytes l.text ++ encode_utf8_all (escaped (chars l.rest));
}

abbrev pub decreases-loop-c : goal.decreases-loop-c
decreases-loop-c g l = length l.rest
