use Rattle.std.proofs.Common.{Some, sym, ap, refl}
use Rattle.crossterm_types.specs.Seen.{Seen}
use Rattle.crossterm_read.specs.Replies.{Came}
use Rattle.crossterm_read.proofs.read.reader.InternalEventReader.position_within.Goals as goal

pub place-requires : goal.place-requires
place-requires g c = c.in-Ok.ensures.admitted

pub returns-in-Ok-clause-step : goal.returns-in-Ok-clause-step
returns-in-Ok-clause-step g c = let e = c.in-Ok.ensures.step in (e.0, _, e.1, e.2, ap (λ (x : Seen). Came (Some x)) (sym c.place.ensures), tt)

pub returns-in-Err-clause-step : goal.returns-in-Err-clause-step
returns-in-Err-clause-step g c = let e = c.in-Err.ensures.step in (e.0, _, e.1, e.2, refl, e.3)
