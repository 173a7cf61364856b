use Rattle.std.proofs.Common.{◌∙◌, sym, arith}
use Rattle.bstr.proofs.lemmas.PieceLemmas.{size-within}
use Rattle.crossterm_parse.proofs.character.any_character_in.Goals as goal

pub returns-in-Some-default : goal.returns-in-Some-default
returns-in-Some-default c = record {
  char = sym c.decode.ensures.char ∙ c.in-Some-default.is-0;
  sized = sym c.decode.ensures.size;
  long = omega (arith, c.if-size-gt1.true);
  within = omega (arith, c.decode.ensures.size, size-within c.args.bytes.now);
}
