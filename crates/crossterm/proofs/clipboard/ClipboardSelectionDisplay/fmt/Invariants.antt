-- The letters of the places so far were written.
use Rattle.std.proofs.Common.{take}
use Rattle.std.specs.Fmt.{HasWritten, IsPlainFormatter}
use Rattle.crossterm.specs.Clipboard.{selection_text}
use Rattle.crossterm.proofs.clipboard.ClipboardSelectionDisplay.fmt.Given as goal

abbrev pub invariant-loop-place : goal.invariant-loop-place
invariant-loop-place g l = IsPlainFormatter l.fn.f → HasWritten g.W.Write.write_str_gives l.fn.f (selection_text (take l.place-index l.place-items)) l.f
