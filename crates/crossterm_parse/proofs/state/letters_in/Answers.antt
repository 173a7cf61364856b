use Rattle.crossterm_parse.proofs.BlockLaws.{letters_between}
use Rattle.crossterm_parse.proofs.state.letters_in.Goals as goal

pub returns-clause-letters : goal.returns-clause-letters
returns-clause-letters c = letters_between c.args.bytes.now c.run_between.result c.run_between.ensures.within c.run_between.ensures.between
