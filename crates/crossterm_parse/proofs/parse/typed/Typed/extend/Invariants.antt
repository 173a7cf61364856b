use Rattle.std.proofs.Common.{◌≡◌, ◌≤◌, ◌+◌, ◌++◌, length, take}
use Rattle.crossterm_parse.proofs.parse.typed.Typed.extend.Given as goal

-- the letters before this one are in their places
abbrev pub invariant-loop-i : goal.invariant-loop-i
invariant-loop-i l = record {
  places : take (l.self-inside.end + l.i) l.self-inside.places ≡ take l.initial.self-inside.end l.initial.self-inside.places ++ take l.i l.letters;
  length : length l.self-inside.places ≡ length l.initial.self-inside.places;
  at : l.self-inside.at ≡ l.initial.self-inside.at;
  end : l.self-inside.end ≡ l.initial.self-inside.end;
}
