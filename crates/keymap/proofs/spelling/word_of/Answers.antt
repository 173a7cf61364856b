use Rattle.std.proofs.Common.{◌∙◌, ap}
use Rattle.crossterm_flags.specs.Variants.{name_in}
use Rattle.crossterm_types.specs.contracts.event.key.KeyCodePartialEq.TheImpl as code_eq
use Rattle.keymap.proofs.spelling.word_of.Goals as goal

pub returns : goal.returns
returns c = c.name_in.ensures ∙ ap (λ t. name_in code_eq.ghosts.eq t c.args.code) c.key_words.ensures
