use Rattle.std.proofs.Common.{length}
use Rattle.screen.proofs.Frames.{prepared_paired}
use Rattle.screen.proofs.screens.prepare.Goals as goal

pub returns-clause-paired : goal.returns-clause-paired
returns-clause-paired g c = prepared_paired c.args.drawn c.args.colors c.args.cells.now.items _ (length c.args.cells.now.items) c.prepare_cells.ensures.cells c.requires
