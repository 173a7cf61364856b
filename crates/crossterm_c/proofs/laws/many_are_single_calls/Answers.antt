use Rattle.crossterm_c.proofs.HeldLaws.{fed_arrive, taken_is}
use Rattle.crossterm_c.proofs.laws.many_are_single_calls.Goals as goal

pub returns-clause-fed : goal.returns-clause-fed
returns-clause-fed c texts old new before after table left count bytes taken f = fed_arrive texts before after table left f.given f.held f.arrivals

pub returns-clause-taken : goal.returns-clause-taken
returns-clause-taken c texts bits before after table left h takes number = taken_is texts bits before after table left h takes number
