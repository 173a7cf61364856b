use Rattle.std.proofs.Common.{◌≡◌, ◌++◌, length, map}
use Rattle.crossterm_types.specs.Seen.{seen}
use Rattle.crossterm_read.proofs.read.trace.take_all.Given as goal

abbrev pub invariant-loop-event : goal.invariant-loop-event
invariant-loop-event g l = map seen l.events.items ++ map (λ h. h.0) l.reader.store.held ≡ map (λ h. h.0) l.fn.reader.store.held

abbrev pub decreases-loop-event : goal.decreases-loop-event
decreases-loop-event g l = length l.reader.store.held
