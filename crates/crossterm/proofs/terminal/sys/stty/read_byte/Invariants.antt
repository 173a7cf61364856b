-- Nothing was read yet.
use Rattle.std.proofs.Common.{[]}
use Rattle.std.specs.Io.KnownBytes.{Consumes}
use Rattle.crossterm.proofs.terminal.sys.stty.read_byte.Given as goal

abbrev pub invariant-loop : goal.invariant-loop
invariant-loop g l = Consumes (g.R.Read.remaining l.fn.answers) (g.R.Read.remaining l.answers) []
