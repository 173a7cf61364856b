use Rattle.std.proofs.Common.{◌≡◌, ◌<◌, ◌≤◌, ◌+◌, ◌-◌, ◌*◌, false, length, take}
use Rattle.crossterm_parse.specs.States.{is_paste}
use Rattle.crossterm_parse.specs.Marked.{marked}
use Rattle.crossterm_parse.specs.View.{AdvancesOver}
use Rattle.crossterm_parse.proofs.parse.Parser.take_paste.Given as goal

-- the bytes before this one were taken
abbrev pub invariant-loop-place : goal.invariant-loop-place
invariant-loop-place g l = record {
  within : l.place ≤ length l.piece;
  divided : AdvancesOver l.initial.self l.self (take l.place (marked l.piece l.more l.raw));
  room : l.initial.self.room ≤ l.self.room + l.place;
  steps : l.steps + length l.self.text ≤ l.initial.steps + length l.initial.self.text + 2 * l.place;
  counted : l.initial.steps + l.place ≤ l.steps;
  over : is_paste l.self.state ≡ false → 0 < l.place;
}

abbrev pub decreases-loop-place : goal.decreases-loop-place
decreases-loop-place g l = length l.piece - l.place
