use Rattle.std.proofs.Common.{ap, refl}
use Rattle.crossterm_read.specs.Replies.{Came}
use Rattle.crossterm_read.proofs.read.reader.InternalEventReader.read_within.Goals as goal

pub returns-in-Ok-clause-step : goal.returns-in-Ok-clause-step
returns-in-Ok-clause-step g c = let e = c.in-Ok.ensures.step in (e.0, _, e.1, e.2, ap Came c.unnumbered.ensures, tt, e.4)

pub returns-in-Err-clause-step : goal.returns-in-Err-clause-step
returns-in-Err-clause-step g c = let e = c.in-Err.ensures.step in (e.0, _, e.1, e.2, refl, e.3, e.4)
