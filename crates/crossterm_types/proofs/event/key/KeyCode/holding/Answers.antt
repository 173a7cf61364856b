use Rattle.std.proofs.Common.{sym}
use Rattle.crossterm_types.proofs.ValueLaws.{none_of}
use Rattle.crossterm_types.proofs.event.key.KeyCode.holding.Goals as goal

pub returns-in_default : goal.returns-in_default
returns-in_default c = sym (none_of c.args.variant.now _ _ _ _ _ _ _ _ c.in_default.not-F c.in_default.not-Char c.in_default.not-Media c.in_default.not-Modifier)
