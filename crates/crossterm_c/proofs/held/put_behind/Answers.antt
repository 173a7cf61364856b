use Rattle.crossterm_c.proofs.HeldLaws.{put_at}
use Rattle.crossterm_c.proofs.held.put_behind.Goals as goal

pub returns : goal.returns
returns c = put_at c.args.table.now c.args.first c.args.held c.args.member c.requires
