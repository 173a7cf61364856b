-- What is left of the table has the word's value exactly as the whole has.
use Rattle.std.proofs.Common.{◌≡◌, drop}
use Rattle.crossterm_flags.specs.Variants.{rows_of, value_in}
use Rattle.keymap.proofs.spelling.value_in.Given as goal

abbrev pub invariant-loop-name : goal.invariant-loop-name
invariant-loop-name g l = value_in (rows_of (drop l.name-index l.table)) l.word ≡ value_in (rows_of l.table) l.word
