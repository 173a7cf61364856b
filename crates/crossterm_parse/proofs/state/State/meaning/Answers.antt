use Rattle.std.proofs.Common.{◌∙◌, sym, ap}
use Rattle.crossterm_parse.specs.Transitions.{meaning_with}
use Rattle.crossterm_parse.specs.declared.state.State.{State}
use Rattle.crossterm_parse.proofs.state.State.meaning.Goals as goal

pub returns-in-Numbered : goal.returns-in-Numbered
returns-in-Numbered c = c.meaning-in-Numbered.ensures ∙ ap (λ (s : State). meaning_with s c.args.byte c.args.raw) (sym c.in-Numbered.is)
