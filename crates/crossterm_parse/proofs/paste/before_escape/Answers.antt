use Rattle.crossterm_parse.proofs.RunLaws.{none_is}
use Rattle.crossterm_parse.proofs.paste.before_escape.Goals as goal

pub returns-in-Some-clause-none : goal.returns-in-Some-clause-none
returns-in-Some-clause-none c = none_is c.args.bytes.now c.in-Some.place c.in-Some.ensures.0.before

pub returns-in-None-clause-none : goal.returns-in-None-clause-none
returns-in-None-clause-none c = none_is c.args.bytes.now _ c.in-None.ensures
