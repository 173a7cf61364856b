use Rattle.keymap.proofs.Parted.{only_cut}
use Rattle.keymap.proofs.laws.unique_cut.Goals as goal

-- src/laws.rt:28:1
pub returns : goal.returns
returns c = only_cut
