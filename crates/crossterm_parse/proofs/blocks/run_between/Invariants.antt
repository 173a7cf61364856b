use Rattle.std.proofs.Common.{◌-◌, ◌≤◌, length}
use Rattle.crossterm_parse.specs.inside.Blocks.{LieBetween}
use Rattle.crossterm_parse.proofs.blocks.run_between.Given as goal

-- the bytes before this place lie between the two
abbrev pub invariant-loop-at : goal.invariant-loop-at
invariant-loop-at l = record { within : l.at ≤ length l.bytes; between : LieBetween l.first l.last l.bytes 0 l.at }

abbrev pub decreases-loop-at : goal.decreases-loop-at
decreases-loop-at l = length l.bytes - l.at

abbrev pub invariant-loop-at-2 : goal.invariant-loop-at-2
invariant-loop-at-2 l = record { within : l.at ≤ length l.bytes; between : LieBetween l.first l.last l.bytes 0 l.at }

abbrev pub decreases-loop-at-2 : goal.decreases-loop-at-2
decreases-loop-at-2 l = length l.bytes - l.at
