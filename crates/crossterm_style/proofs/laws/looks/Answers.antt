use Rattle.crossterm_style.proofs.ActLooks as looks
use Rattle.crossterm_style.proofs.laws.looks.Goals as goal

pub returns-clause-acts : goal.returns-clause-acts
returns-clause-acts c = looks.acts_show

pub returns-clause-colors : goal.returns-clause-colors
returns-clause-colors c = looks.colors_show
