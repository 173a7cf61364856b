-- The columns of the widest so far.
use Rattle.std.proofs.Common.{◌≡◌, map, take}
use Rattle.prompt.specs.Shown.{widest}
use Rattle.prompt.proofs.listing.widest.Given as goal

abbrev pub invariant-loop-name : goal.invariant-loop-name
invariant-loop-name l = l.columns ≡ widest (map (λ n. n.now) (take l.name-index l.names))
