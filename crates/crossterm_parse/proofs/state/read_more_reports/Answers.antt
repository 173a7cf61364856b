use Rattle.crossterm_parse.specs.declared.state.State.TheVariants.{Sgr}
use Rattle.crossterm_parse.proofs.RunLaws.{opens_on}
use Rattle.crossterm_parse.proofs.state.read_more_reports.Goals as goal

pub returns-clause-opens : goal.returns-clause-opens
returns-clause-opens c =
    let idle = c.read_idle-count in
    let few = c.read_few_reports in
    opens_on (Sgr c.args.parameters.now) (Sgr idle.new.self) (Sgr few.new.parameters) c.args.bytes.now idle.result few.result idle.ensures.report few.ensures.opens
