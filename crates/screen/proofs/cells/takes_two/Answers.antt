use Rattle.std.proofs.Common.{sym, arith}
use Rattle.screen.proofs.Narrow.{low_takes_no_two}
use Rattle.screen.proofs.cells.takes_two.Goals as goal

pub returns-then-symbol-lt4352 : goal.returns-then-symbol-lt4352
returns-then-symbol-lt4352 c = sym (low_takes_no_two c.args.symbol (omega (arith, c.if-symbol-lt4352.true)))
