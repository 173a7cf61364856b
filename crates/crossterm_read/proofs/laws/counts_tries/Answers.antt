use Rattle.crossterm_read.proofs.Counting.{counts_tries}
use Rattle.crossterm_read.proofs.laws.counts_tries.Goals as goal

pub returns : goal.returns
returns c = counts_tries
