-- The columns of the characters so far.
use Rattle.std.proofs.Common.{◌≡◌, chars, length, min, take}
use Rattle.line_editor.specs.Views.{width_of}
use Rattle.prompt.proofs.listing.width_of.Given as goal

abbrev pub invariant-loop-c : goal.invariant-loop-c
invariant-loop-c l = l.columns ≡ min (width_of (take (length l.yielded) (chars l.text))) 65535
