use Rattle.crossterm_read.proofs.Happening.{happens_by_division}
use Rattle.crossterm_read.proofs.laws.one_happening.Goals as goal

pub returns : goal.returns
returns c = happens_by_division
