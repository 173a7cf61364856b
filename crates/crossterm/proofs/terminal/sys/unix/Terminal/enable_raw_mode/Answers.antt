use Rattle.std.proofs.Common.{rules}
use Rattle.crossterm.specs.Modes.{unset}
use Rattle.crossterm.proofs.terminal.sys.unix.Terminal.enable_raw_mode.Goals as goal

pub returns-in-Err-set_raw-clause-asked : goal.returns-in-Err-set_raw-clause-asked
returns-in-Err-set_raw-clause-asked g c = λ _. unset c.in-Ok.mode c.mode.new.self (search rules) (search rules) (search rules)
