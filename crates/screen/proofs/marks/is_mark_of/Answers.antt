use Rattle.std.proofs.Common.{sym}
use Rattle.screen.proofs.Marking.{low_isnt_mark}
use Rattle.screen.proofs.marks.is_mark_of.Goals as goal

pub returns-then-symbol-lt160 : goal.returns-then-symbol-lt160
returns-then-symbol-lt160 c = sym (low_isnt_mark c.args.before c.args.symbol c.if-symbol-lt160.true)
