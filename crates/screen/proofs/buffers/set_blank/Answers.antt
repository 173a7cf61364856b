use Rattle.screen.proofs.Fitting.{blank_laid_out}
use Rattle.screen.proofs.buffers.set_blank.Goals as goal

pub returns-clause-rows : goal.returns-clause-rows
returns-clause-rows g c = blank_laid_out c.args.count c.make_blank.new.cells.items c.in_ok-make_blank.ensures.ok
