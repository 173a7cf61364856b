use Rattle.std.specs.Prelude.{◌≡◌, ◌++◌, List, length}
use Rattle.own_terminal.specs.Features.{Lacks}
use Rattle.own_terminal.specs.declared.feature.Feature.{Feature}
use Rattle.own_terminal.proofs.feature.last_of.Given as goal

-- What was looked at behind the rest has no feature of the kind.
abbrev pub invariant-loop-rest : goal.invariant-loop-rest
invariant-loop-rest l = (after : List Feature) × (l.features ≡ l.rest ++ after) × Lacks l.kind after

abbrev pub decreases-loop-rest : goal.decreases-loop-rest
decreases-loop-rest l = length l.rest
