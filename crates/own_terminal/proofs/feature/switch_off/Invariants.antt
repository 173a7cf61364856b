use Rattle.std.specs.Prelude.{◌≡◌, ◌++◌, List, OnOk, length}
use Rattle.std.specs.Io.KnownBytes.{Appends}
use Rattle.own_terminal.specs.Features.{EndsOffered, all_switched_off}
use Rattle.own_terminal.specs.declared.feature.Feature.{Feature}
use Rattle.own_terminal.proofs.feature.switch_off.Given as goal

-- The features that were taken from the list, in its order.
abbrev pub invariant-loop-feature : goal.invariant-loop-feature
invariant-loop-feature g l = (taken : List Feature) × (l.fn.features.items ≡ l.features.items ++ taken) × EndsOffered taken (g.W.Write.contents l.fn.out) (g.W.Write.contents l.out)
    × OnOk l.left (Appends (g.W.Write.contents l.fn.out) (g.W.Write.contents l.out) (all_switched_off taken))

abbrev pub decreases-loop-feature : goal.decreases-loop-feature
decreases-loop-feature g l = length l.features.items
