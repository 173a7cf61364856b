use Rattle.std.proofs.Common.{◌≡◌, ◌<◌, take}
use Rattle.crossterm_parse.specs.declared.number.Number.TheVariants.{Empty, Value}
use Rattle.crossterm_parse.specs.inside.InFront.{last_through, number_through}
use Rattle.crossterm_parse.proofs.WholeLaws.{Digits}
use Rattle.crossterm_parse.proofs.whole.number_in.Given as goal

-- the bytes before this one are digits, and were read
abbrev pub invariant-loop-i : goal.invariant-loop-i
invariant-loop-i l = record {
  digits : Digits (take l.i l.bytes);
  none : l.i ≡ 0 → l.value ≡ 0;
  some : 0 < l.i → number_through Empty (take l.i l.bytes) ≡ Value l.value;
  last : last_through 0 (take l.i l.bytes) ≡ l.digit;
  small : l.value < 1000000;
}
