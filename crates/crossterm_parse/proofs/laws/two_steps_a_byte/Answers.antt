use Rattle.crossterm_parse.proofs.CuttingLaws as laws
use Rattle.crossterm_parse.proofs.laws.two_steps_a_byte.Goals as goal

pub returns : goal.returns
returns c = laws.two_steps_a_byte
