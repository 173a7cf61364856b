use Rattle.crossterm_c.proofs.HeldLaws.{moved}
use Rattle.crossterm_c.proofs.held.move_first.Goals as goal

pub returns-clause-others : goal.returns-clause-others
returns-clause-others c = moved c.args.held.now c.rotate_right.new.self c.args.at c.requires c.rotate_right.ensures.after
