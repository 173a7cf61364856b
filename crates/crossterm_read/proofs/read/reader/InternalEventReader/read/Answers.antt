use Rattle.std.proofs.Common.{refl}
use Rattle.crossterm_read.proofs.read.reader.InternalEventReader.read.Goals as goal

pub returns-in-Ok-clause-step : goal.returns-in-Ok-clause-step
returns-in-Ok-clause-step g c = let e = c.in-Ok.ensures.step in (e.0, e.1, _, e.2, e.3, refl, tt, e.5)

pub returns-in-Err-clause-step : goal.returns-in-Err-clause-step
returns-in-Err-clause-step g c = let e = c.in-Err.ensures.step in (e.0, e.1, _, e.2, e.3, refl, e.4, e.5)
