use Rattle.std.proofs.Common.{◌≡◌, ◌+◌, map, take}
use Rattle.crossterm_parse.specs.Meaning.{typed}
use Rattle.crossterm_parse.specs.inside.Queue.{Grew}
use Rattle.crossterm_parse.proofs.parse.queue.QueueOutlet.give_letters.Given as goal

-- the letters before this one were given
abbrev pub invariant-loop-letter : goal.invariant-loop-letter
invariant-loop-letter g l = record {
  given : Grew l.initial.self (map typed (take l.letter-index l.letters)) l.self;
  room : l.self.room + l.letter-index ≡ l.initial.self.room;
}
