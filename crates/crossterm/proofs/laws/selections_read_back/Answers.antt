use Rattle.crossterm.proofs.Clipboards as clipboards
use Rattle.crossterm.proofs.laws.selections_read_back.Goals as goal

pub returns-clause-back : goal.returns-clause-back
returns-clause-back c = clipboards.reads_back

pub returns-clause-same : goal.returns-clause-same
returns-clause-same c = clipboards.reads_same

pub returns-clause-text : goal.returns-clause-text
returns-clause-text c = clipboards.writes_back
