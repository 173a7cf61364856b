-- The names so far that begin so.
use Rattle.std.proofs.Common.{◌≡◌, map, take, vec_items}
use Rattle.prompt.specs.Words.{names_with}
use Rattle.prompt.proofs.words.Words.names_with.Given as goal

abbrev pub invariant-loop-name : goal.invariant-loop-name
invariant-loop-name l = map (λ n. n.now) (vec_items l.found) ≡ names_with l.text (take l.name-index l.name-items)
