-- What is left of the rows has the name exactly as all have.
use Rattle.std.proofs.Common.{◌≡◌, drop}
use Rattle.crossterm_flags.specs.Variants.{rows_of, value_in}
use Rattle.crossterm_flags.proofs.value.value_named.Given as goal

abbrev pub invariant-loop-name : goal.invariant-loop-name
invariant-loop-name g l = value_in (rows_of (drop l.name-index l.name-items)) l.text ≡ value_in g.T.Named.rows l.text
