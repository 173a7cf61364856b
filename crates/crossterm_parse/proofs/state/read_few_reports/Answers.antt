use Rattle.std.proofs.Common.{sym, subst, take, refl}
use Rattle.std.proofs.lemmas.List.{take_more}
use Rattle.crossterm_parse.specs.Transitions.{Opens}
use Rattle.crossterm_parse.specs.declared.state.State.TheVariants.{Sgr}
use Rattle.crossterm_parse.proofs.RunLaws.{opens_more}
use Rattle.crossterm_parse.proofs.state.read_few_reports.Goals as goal

pub loop-i-preserved : goal.loop-i-preserved
loop-i-preserved c = subst (Opens (Sgr c.args.parameters.now) (Sgr c.read_report.new.parameters)) (sym (take_more c.args.bytes.now c.loop-i.i 0 c.loop-i-test.true))
    (opens_more (Sgr c.args.parameters.now) (Sgr c.loop-i.parameters) (Sgr c.read_report.new.parameters) (take c.loop-i.i c.args.bytes.now) _ c.loop-i.invariant (c.read_report.ensures.yes c.if-not-read_report.false) refl)
