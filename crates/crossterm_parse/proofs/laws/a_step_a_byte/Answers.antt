use Rattle.crossterm_parse.proofs.CuttingLaws as laws
use Rattle.crossterm_parse.proofs.laws.a_step_a_byte.Goals as goal

pub returns : goal.returns
returns c = laws.a_step_a_byte
