use Rattle.std.proofs.Common.{rules}
use Rattle.crossterm_parse.proofs.RunLaws.{all_on, paste_run}
use Rattle.crossterm_parse.proofs.parse.Parser.keep_all.Goals as goal

pub returns-clause-puts : goal.returns-clause-puts
returns-clause-puts g c raw = all_on raw _ _ _ (paste_run _ c.args.self.now _ c.in-Ok.ensures.ok.none (search rules) (search rules) (search rules) (search rules))
