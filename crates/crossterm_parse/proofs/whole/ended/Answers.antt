use Rattle.std.proofs.Common.{rules}
use Rattle.crossterm_parse.proofs.WholeLaws.{numbers_end}
use Rattle.crossterm_parse.proofs.whole.ended.Goals as goal

pub returns : goal.returns
returns c bytes are = numbers_end bytes c.args.readings c.args.end c.args.count c.args.raw c.meaning.result are (search rules) c.meaning.ensures
