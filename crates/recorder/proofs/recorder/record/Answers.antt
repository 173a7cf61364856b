use Rattle.std.proofs.Common.{rules, ap}
use Rattle.recorder.specs.inside.Said.{said_by}
use Rattle.recorder.proofs.Entering.{not_noted, noted}
use Rattle.recorder.proofs.recorder.record.Goals as goal

pub returns-then-is_none : goal.returns-then-is_none
returns-then-is_none g c = noted _ _ _ _ _ _ _ _ _ _ _ _ (ap said_by c.in-Some.is) (search rules) c.moment-time.ensures.time c.moment-time.ensures.later (search rules)

pub returns-else-is_none : goal.returns-else-is_none
returns-else-is_none g c = not_noted _ _ _ _ _ _ _ (ap said_by c.in-Some.is) (search rules)
