-- Cells can hold the characters so far that take a column or more.
use Rattle.std.proofs.Common.{◌≡◌, chars, drop, length}
use Rattle.screen.specs.Texts.{text_fault, without_marks}
use Rattle.screen.proofs.texts.fault_without_marks.Given as goal

abbrev pub invariant-loop-symbol : goal.invariant-loop-symbol
invariant-loop-symbol l = text_fault (without_marks (drop (length l.yielded) (chars l.text))) ≡ text_fault (without_marks (chars l.text))
