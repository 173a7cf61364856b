use Rattle.std.proofs.Common.{◌∙◌, sym}
use Rattle.keymap.proofs.Words.{named_word}
use Rattle.keymap.proofs.spelling.part_of.Goals as goal

pub returns-in_default : goal.returns-in_default
returns-in_default c = c.word_of.ensures ∙ sym (named_word c.args.code c.in_default.not-F c.in_default.not-Char)
