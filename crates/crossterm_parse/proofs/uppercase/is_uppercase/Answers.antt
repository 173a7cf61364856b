use Rattle.std.proofs.Common.{◌==◌, ap, ◌∙◌, arith}
use Rattle.unicode.proofs.RunsLemmas.{is_one}
use Rattle.unicode.specs.Binary.{is_uppercase}
use Rattle.crossterm_parse.proofs.UppercaseTrie.{IsTrie-UPPERCASE, trie_value-UPPERCASE}
use Rattle.crossterm_parse.proofs.uppercase.is_uppercase.Goals as goal

pub get-requires : goal.get-requires
get-requires c = IsTrie-UPPERCASE

pub returns : goal.returns
returns c =
    ap (λ n. n == 1) (c.get.ensures ∙ trie_value-UPPERCASE c.args.c (omega arith)) ∙ is_one (is_uppercase c.args.c)
