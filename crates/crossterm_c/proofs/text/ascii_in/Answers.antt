use Rattle.std.proofs.Common.{◌<◌, sym, subst, take, arith}
use Rattle.std.proofs.lemmas.List.{take_more}
use Rattle.std.specs.List.{AllByRecursion}
use Rattle.crossterm_c.proofs.TextLaws.{ascii_more}
use Rattle.crossterm_c.proofs.text.ascii_in.Goals as goal

pub loop-i-preserved : goal.loop-i-preserved
loop-i-preserved c = subst (AllByRecursion (λ b. b < 128)) (sym (take_more c.args.bytes.now c.loop-i.i 0 c.loop-i-test.true))
    (ascii_more (take c.loop-i.i c.args.bytes.now) _ c.loop-i.invariant (omega arith))
