use Rattle.std.proofs.Common.{ℕ, ◌+◌, arith, refl, sym, subst, take}
use Rattle.crossterm_parse.specs.Tracking.{Tracks}
use Rattle.crossterm_parse.specs.declared.number.Number.{Number}
use Rattle.test_input.proofs.PlainLaws.{digit_next, digits_over}
use Rattle.test_input.proofs.plain.meanings.read_number.Goals as goal

pub loop-byte-preserved : goal.loop-byte-preserved
loop-byte-preserved c = subst (λ (n : Number). Tracks (take (c.loop-byte.byte-index + 1) c.args.text.now) n) (sym c.put-read.ensures)
    (digit_next c.loop-byte.read c.args.text.now c.loop-byte.byte-index _ (omega arith) refl c.loop-byte.invariant)

pub returns : goal.returns
returns c = digits_over c.loop-byte.read c.args.text.now c.loop-byte.byte-index (omega arith) c.loop-byte.invariant
