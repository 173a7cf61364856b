use Rattle.std.proofs.Common.{◌≡◌, ◌+◌, map, take}
use Rattle.crossterm_parse.specs.Meaning.{typed}
use Rattle.crossterm_c.specs.inside.Table.{Filled}
use Rattle.crossterm_c.proofs.table.TableOutlet.give_letters.Given as goal

-- The letters before this one were given.
abbrev pub invariant-loop-letter : goal.invariant-loop-letter
invariant-loop-letter l = record {
  filled : Filled l.initial.self (map typed (take l.letter-index l.letters)) l.self;
  end : l.self.end ≡ l.initial.self.end + l.letter-index;
}
