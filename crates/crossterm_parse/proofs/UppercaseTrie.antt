use Rattle.std.proofs.Common.{◌≡◌, ℕ, ◌<◌, true, refl}
use Rattle.unicode.specs.Trie.{IsTrie, trie_value}
use Rattle.unicode.specs.Binary.{is_uppercase}
use Rattle.unicode.proofs.Stepped.{runs_of, map_stepped}
use Rattle.unicode.proofs.RunsLemmas.{one_if}
use Rattle.unicode.proofs.TrieCheck.{trie_ok-IsTrie, trie_value-Stepped, trie_ok}
use Rattle.unicode.proofs.BinaryLemmas.{is_uppercase_stepped}
use Rattle.unicode.proofs.TableComputing.{tables}
use Rattle.crossterm_parse.specs.declared.uppercase_table.TheConstants.{UPPERCASE_INDEX, UPPERCASE_WORDS, UPPERCASE_TAIL}

uppercase_trie_ok : trie_ok 1 4 2 UPPERCASE_INDEX UPPERCASE_WORDS UPPERCASE_TAIL (runs_of (λ c. one_if (is_uppercase c)) (map_stepped one_if is_uppercase is_uppercase_stepped)) ≡ true
unfolding tables is_uppercase_stepped
uppercase_trie_ok = refl

pub IsTrie-UPPERCASE : IsTrie 1 4 UPPERCASE_INDEX UPPERCASE_WORDS
IsTrie-UPPERCASE = trie_ok-IsTrie 1 4 2 UPPERCASE_INDEX UPPERCASE_WORDS UPPERCASE_TAIL _ uppercase_trie_ok

pub trie_value-UPPERCASE : (c : ℕ) → c < 0x11_0000 → trie_value 1 4 UPPERCASE_INDEX UPPERCASE_WORDS UPPERCASE_TAIL c ≡ one_if (is_uppercase c)
trie_value-UPPERCASE = trie_value-Stepped 1 4 2 UPPERCASE_INDEX UPPERCASE_WORDS UPPERCASE_TAIL (λ c. one_if (is_uppercase c)) (map_stepped one_if is_uppercase is_uppercase_stepped) uppercase_trie_ok
