use Rattle.crossterm_parse.specs.declared.state.State.TheVariants.{Sgr}
use Rattle.crossterm_parse.proofs.RunLaws.{opens_front, opens_on}
use Rattle.crossterm_parse.proofs.state.read_reports.Goals as goal

pub returns-clause-opens : goal.returns-clause-opens
returns-clause-opens c =
    let few = c.read_few_reports-count in
    let more = c.read_more_reports in
    let old = Sgr c.args.parameters.now in
    let mid = Sgr few.new.parameters in
    opens_on old mid (Sgr more.new.parameters) c.args.bytes.now few.result more.result
    (opens_front old mid c.args.bytes.now c.min.result few.result few.ensures.within few.ensures.opens) more.ensures.opens
