use Rattle.crossterm_c.proofs.FeedingLaws.{filled_one}
use Rattle.crossterm_c.proofs.table.TableOutlet.give.Goals as goal

pub returns-clause-given : goal.returns-clause-given
returns-clause-given c = filled_one c.args.self.now c.push.new.self c.of_meaning.result c.args.meaning c.push.ensures c.of_meaning.ensures.means
