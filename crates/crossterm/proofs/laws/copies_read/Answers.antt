use Rattle.crossterm.proofs.Clipboards.{copy_reads}
use Rattle.crossterm.proofs.laws.copies_read.Goals as goal

pub returns : goal.returns
returns c = copy_reads
