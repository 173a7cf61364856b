use Rattle.std.proofs.Common.{sym, arith}
use Rattle.screen.proofs.Ascii.{letter_fault, letter_printed}
use Rattle.screen.proofs.cells.symbol_fault.Goals as goal

pub returns-then-symbol-le126-clause-value : goal.returns-then-symbol-le126-clause-value
returns-then-symbol-le126-clause-value c = sym (letter_fault c.args.symbol (omega (arith, c.if-symbol-ge32.true), omega (arith, c.if-symbol-le126.true)))

pub returns-then-symbol-le126-clause-printed : goal.returns-then-symbol-le126-clause-printed
returns-then-symbol-le126-clause-printed c = λ none. letter_printed c.args.symbol (omega (arith, c.if-symbol-ge32.true), omega (arith, c.if-symbol-le126.true))
