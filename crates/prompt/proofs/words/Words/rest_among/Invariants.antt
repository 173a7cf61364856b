-- The names so far have no rest.
use Rattle.std.proofs.Common.{◌≡◌, drop}
use Rattle.prompt.specs.Words.{rest_among}
use Rattle.prompt.proofs.words.Words.rest_among.Given as goal

abbrev pub invariant-loop-name : goal.invariant-loop-name
invariant-loop-name l = rest_among l.text (drop l.name-index l.name-items) ≡ rest_among l.text l.name-items
