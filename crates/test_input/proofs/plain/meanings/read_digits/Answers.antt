use Rattle.std.proofs.Common.{arith, refl}
use Rattle.test_input.proofs.PlainLaws.{number_next, number_over}
use Rattle.test_input.proofs.plain.meanings.read_digits.Goals as goal

pub loop-byte-preserved : goal.loop-byte-preserved
loop-byte-preserved c = number_next c.loop-byte.parameters c.read.new.self c.args.text.now c.loop-byte.byte-index _ (omega arith) refl c.read.ensures c.loop-byte.invariant

pub returns : goal.returns
returns c = number_over c.loop-byte.parameters c.args.text.now c.loop-byte.byte-index (omega arith) c.loop-byte.invariant
