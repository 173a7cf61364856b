-- What is left of the table has the value's name exactly as the whole has.
use Rattle.std.proofs.Common.{◌≡◌, drop}
use Rattle.crossterm_flags.specs.Variants.{name_in, rows_of}
use Rattle.crossterm_flags.proofs.value.name_in.Given as goal

abbrev pub invariant-loop-name : goal.invariant-loop-name
invariant-loop-name g l = name_in g.T.PartialEq.eq (rows_of (drop l.name-index l.table)) l.value ≡ name_in g.T.PartialEq.eq (rows_of l.table) l.value
