use Rattle.std.proofs.Common.{◌≡◌, length, take}
use denote.Text.{Utf8}
use denote.Shadow.{shadow}
use Rattle.std.specs.Str.{chars}
use Rattle.line_editor.specs.History.{history_of}
use Rattle.line_editor.proofs.Loading.{loads}
use Rattle.line_editor.proofs.history.history_of.Given as goal

abbrev pub invariant-loop-rest : goal.invariant-loop-rest
invariant-loop-rest g l = record {
  utf8 : shadow (Utf8 l.rest);
  same : history_of l.limits (chars l.fn.text) ≡ loads l.limits l.history (chars l.rest);
  short : take l.limits.lines l.history ≡ l.history;
}

abbrev pub decreases-loop-rest : goal.decreases-loop-rest
decreases-loop-rest g l = length l.rest
