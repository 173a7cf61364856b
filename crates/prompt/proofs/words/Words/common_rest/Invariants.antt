-- What the names so far have in common.
use Rattle.std.proofs.Common.{◌≡◌, None, chars, map, take}
use Rattle.std.specs.Option.{option_map}
use Rattle.prompt.specs.Words.{common_to, names_with, rest_of}
use Rattle.prompt.proofs.words.Words.common_rest.Given as goal

abbrev pub invariant-loop-name : goal.invariant-loop-name
invariant-loop-name l = option_map (λ rest. chars rest.now) l.found ≡ common_to None (map (λ n. chars (rest_of l.text n)) (names_with l.text (take l.name-index l.name-items)))
