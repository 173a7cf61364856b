-- An editor that is lent by its handle.
use Rattle.std.specs.Borrow.{Lends, MutBor, Fml}
use Rattle.line_c.specs.Kept.{LineState}
use Rattle.line_c.specs.declared.keeping.LineHandle.{LineHandle}
use Rattle.line_c.specs.contracts.lines.Lines as kept
use Rattle.line_c.specs.contracts.keeping.LineHandle as handle

-- The handle with another value.
abbrev pub with_value : LineHandle → LineState → LineHandle
with_value h c = record h { value = c }

-- The handle ends with the last value behind the borrow.
abbrev pub LendsLines : MutBor LineHandle → MutBor LineState → Fml
LendsLines h r = Lends handle.the_row kept.the_row h r (with_value h.now)
