use Rattle.crossterm_parse.specs.declared.state.State.TheVariants.{Numbered}
use Rattle.crossterm_parse.proofs.RunLaws.{opens_front, opens_on}
use Rattle.crossterm_parse.proofs.state.read_numbers.Goals as goal

pub returns-clause-opens : goal.returns-clause-opens
returns-clause-opens c =
    let few = c.read_few_numbers-count in
    let more = c.read_more_numbers in
    let old = Numbered c.args.parameters.now c.args.opening.now in
    let mid = Numbered few.new.parameters few.new.opening in
    opens_on old mid (Numbered more.new.parameters more.new.opening) c.args.bytes.now few.result more.result
    (opens_front old mid c.args.bytes.now c.min.result few.result few.ensures.within few.ensures.opens) more.ensures.opens
