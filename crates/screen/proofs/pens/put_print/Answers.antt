use Rattle.std.proofs.Common.{rules}
use Rattle.screen.proofs.pens.put_print.Goals as goal

pub returns-else-not-push : goal.returns-else-not-push
returns-else-not-push g c = c.push.ensures.pushed (g.W.Write.contents c.args.writer.now) (search rules)
