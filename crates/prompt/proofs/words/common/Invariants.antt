-- The characters so far are in both texts, and are followed by what the others have in common.
use Rattle.std.proofs.Common.{◌≡◌, ◌++◌, chars, take, drop}
use Rattle.std.specs.Str.{IsCharBoundary, IsUtf8}
use Rattle.prompt.specs.Words.{common}
use Rattle.prompt.proofs.words.common.Given as goal

abbrev pub invariant-loop-c : goal.invariant-loop-c
invariant-loop-c l = record {
  boundary : IsCharBoundary l.text l.len;
  rest : drop l.len l.text ≡ l.c-iterator.a.rest.now;
  other : IsUtf8 l.c-iterator.b.rest.now;
  same : common (chars l.text) (chars l.other) ≡ chars (take l.len l.text) ++ common (chars (drop l.len l.text)) (chars l.c-iterator.b.rest.now);
}
