use Rattle.std.proofs.Common.{sym, subst}
use Rattle.crossterm_flags.specs.Values.{WritesJson}
use Rattle.crossterm_types.proofs.ValueLaws.{plain_json}
use Rattle.crossterm_types.proofs.event.key.KeyCode.as_json.Goals as goal

pub returns-in_default : goal.returns-in_default
returns-in_default c =
    subst (λ d. WritesJson d c.name_to_json.result) (sym (plain_json c.args.self c.in_default.not-F c.in_default.not-Char c.in_default.not-Media c.in_default.not-Modifier)) c.name_to_json.ensures
