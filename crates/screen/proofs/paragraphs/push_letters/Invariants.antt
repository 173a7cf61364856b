-- The letters before this one were added, and there is room for the others.
use Rattle.std.proofs.Common.{◌≡◌, ◌+◌, ◌++◌, ◌≤◌, length, map, take}
use Rattle.std.specs.Vec.{vec_capacity, vec_len}
use Rattle.screen.specs.inside.Ascii.{bare_cell}
use Rattle.screen.proofs.paragraphs.push_letters.Given as goal

abbrev pub invariant-loop-letter : goal.invariant-loop-letter
invariant-loop-letter g l = record {
  added : l.cells.items ≡ l.fn.cells.items ++ map (bare_cell l.fn.style) (take l.letter-index l.letters);
  room : vec_len l.cells + length l.letters ≤ vec_capacity l.cells + l.letter-index;
  grown : vec_capacity l.fn.cells ≤ vec_capacity l.cells;
}
