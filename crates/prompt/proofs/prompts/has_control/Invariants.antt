-- No character so far is a control character.
use Rattle.std.proofs.Common.{◌≡◌, chars, false, length, take}
use Rattle.prompt.specs.Prompts.{has_control}
use Rattle.prompt.proofs.prompts.has_control.Given as goal

abbrev pub invariant-loop-c : goal.invariant-loop-c
invariant-loop-c l = has_control (take (length l.yielded) (chars l.text)) ≡ false
