-- What is left of the kinds has the name's kind exactly as all have.
use Rattle.std.proofs.Common.{◌≡◌, drop}
use Rattle.crossterm_flags.specs.Variants.{value_in}
use Rattle.recorder.specs.Lines.{error_kinds, named_kinds}
use Rattle.recorder.proofs.kinds.kind_named.Given as goal

abbrev pub invariant-loop-kind : goal.invariant-loop-kind
invariant-loop-kind l = value_in (named_kinds (drop l.kind-index l.kind-items)) l.name ≡ value_in (named_kinds error_kinds) l.name
