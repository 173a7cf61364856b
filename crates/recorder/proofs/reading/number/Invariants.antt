-- What is left reads on as the whole does.
use Rattle.std.proofs.Common.{◌≡◌, ◌<◌, drop}
use Rattle.recorder.specs.Reads.{limited_after}
use Rattle.recorder.proofs.reading.number.Given as goal

abbrev pub invariant-loop-d : goal.invariant-loop-d
invariant-loop-d l = (limited_after l.limit l.n (drop l.d-index l.digits) ≡ limited_after l.limit 0 l.digits) × (l.n < 4294967297) × ((0 < l.d-index) → l.n < l.limit)
