use Rattle.std.proofs.Common.{ℕ, List, ap, sym}
use Rattle.crossterm.proofs.Clipboards.{writes_back}
use Rattle.crossterm_c.specs.Command.{copied}
use Rattle.crossterm_c.proofs.laws.a_copy_is_the_command.Goals as goal

pub returns : goal.returns
returns c content places utf8 = ap (λ (letters : List ℕ). copied content letters) (sym (writes_back places utf8))
