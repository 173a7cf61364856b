use Rattle.std.proofs.Common.{sym, arith}
use Rattle.std.proofs.lemmas.Option.{slice_get_past}
use Rattle.numbers.specs.Event.{key_list}
use Rattle.numbers.proofs.of_numbers.listed_key.Goals as goal

pub returns-in_default : goal.returns-in_default
returns-in_default c = sym (slice_get_past key_list c.args.code (omega (arith, c.in_default)))
