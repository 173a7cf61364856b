-- The lines so far.
use Rattle.std.proofs.Common.{◌≡◌, map, string_bytes}
use Rattle.std.specs.List.{flat_map}
use Rattle.prompt.proofs.Printed.{row}
use Rattle.prompt.proofs.printer.in_lines.Given as goal

abbrev pub invariant-loop-line : goal.invariant-loop-line
invariant-loop-line l = string_bytes l.made ≡ flat_map row (map (λ x. x.now) l.yielded)
