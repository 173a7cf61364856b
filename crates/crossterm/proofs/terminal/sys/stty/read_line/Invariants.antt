-- What was read are the bytes of the text, and no line's end.
use Rattle.std.specs.Io.KnownBytes.{Consumes}
use Rattle.crossterm.specs.Stty.{HasNoNewline}
use Rattle.crossterm.proofs.terminal.sys.stty.read_line.Given as goal

abbrev pub invariant-loop : goal.invariant-loop
invariant-loop g l = record {
  consumed : Consumes (g.R.Read.remaining l.fn.answers) (g.R.Read.remaining l.answers) l.text.bytes;
  endless : HasNoNewline l.text.bytes;
}
