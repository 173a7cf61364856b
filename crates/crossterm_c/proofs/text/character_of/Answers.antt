use Rattle.std.proofs.Common.{arith}
use Rattle.bstr.proofs.lemmas.PieceLemmas.{piece-bounds}
use Rattle.crossterm_c.proofs.text.character_of.Goals as goal

pub returns-clause-some : goal.returns-clause-some
returns-clause-some c = omega (arith, c.decode.ensures.size, (piece-bounds c.args.bytes.now c.requires).0)

pub returns-clause-within : goal.returns-clause-within
returns-clause-within c = omega (arith, c.decode.ensures.size, (piece-bounds c.args.bytes.now c.requires).2)
