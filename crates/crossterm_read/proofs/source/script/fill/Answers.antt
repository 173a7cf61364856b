use Rattle.std.proofs.Common.{◌∙◌, ap, List, ℕ, take, drop, ◌++◌, arith}
use Rattle.crossterm_read.proofs.Cutting.{take_answered}
use Rattle.crossterm_read.proofs.source.script.fill.Goals as goal

pub returns-clause-answered : goal.returns-clause-answered
returns-clause-answered c = ap (λ (l : List ℕ). take c.min-count.result (l ++ drop c.min-count.result c.args.buf.now)) c.copy_from_slice.ensures.after ∙ take_answered c.args.bytes.now c.args.buf.now c.min-count.result (omega arith)
