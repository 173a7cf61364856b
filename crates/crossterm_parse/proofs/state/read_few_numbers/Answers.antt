use Rattle.std.proofs.Common.{sym, subst, take, refl}
use Rattle.std.proofs.lemmas.List.{take_more}
use Rattle.crossterm_parse.specs.Transitions.{Opens}
use Rattle.crossterm_parse.specs.declared.state.State.TheVariants.{Numbered}
use Rattle.crossterm_parse.proofs.RunLaws.{opens_more}
use Rattle.crossterm_parse.proofs.state.read_few_numbers.Goals as goal

pub loop-i-preserved : goal.loop-i-preserved
loop-i-preserved c = subst (Opens (Numbered c.args.parameters.now c.args.opening.now) (Numbered c.read_number.new.parameters c.read_number.new.opening)) (sym (take_more c.args.bytes.now c.loop-i.i 0 c.loop-i-test.true))
    (opens_more (Numbered c.args.parameters.now c.args.opening.now) (Numbered c.loop-i.parameters c.loop-i.opening) (Numbered c.read_number.new.parameters c.read_number.new.opening) (take c.loop-i.i c.args.bytes.now) _ c.loop-i.invariant (c.read_number.ensures.yes c.if-not-read_number.false) refl)
