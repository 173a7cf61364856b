-- The marks so far are held, and those that are left are behind them.
use Rattle.std.proofs.Common.{◌≡◌, ◌≤◌, length}
use denote.Text.{Utf8}
use denote.Shadow.{shadow}
use Rattle.std.specs.Str.{chars}
use Rattle.screen.specs.inside.FirstParts.{behind_marks, first_marks}
use Rattle.screen.proofs.Parting.{Holds}
use Rattle.screen.proofs.parts.split_marks.Given as goal

abbrev pub invariant-loop-symbol : goal.invariant-loop-symbol
invariant-loop-symbol l = record {
  utf8 : shadow (Utf8 l.rest);
  held : Holds l.is_long l.marks (first_marks l.last (chars l.rest)) (first_marks l.fn.before (chars l.fn.text));
  back : behind_marks l.last (chars l.rest) ≡ behind_marks l.fn.before (chars l.fn.text);
  len : length l.rest ≤ length l.fn.text;
}

abbrev pub decreases-loop-symbol : goal.decreases-loop-symbol
decreases-loop-symbol l = length l.rest
