use Rattle.std.proofs.Common.{sym, subst, ◌∙◌}
use Rattle.serde_json.specs.Data.{string}
use Rattle.crossterm_flags.specs.Values.{WritesJson}
use Rattle.crossterm_style.proofs.ColorBack.{named_json}
use Rattle.crossterm_style.proofs.types.color.Color.as_json.Goals as goal

pub returns-in_default : goal.returns-in_default
returns-in_default c =
    subst (λ text. WritesJson (string text) c.text_to_json.result) (c.name_of.ensures ∙ sym (named_json c.args.self c.in_default.not-AnsiValue c.in_default.not-Rgb)) c.text_to_json.ensures
