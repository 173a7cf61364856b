use Rattle.std.proofs.Common.{◌≤◌, ◌-◌, take, length}
use Rattle.crossterm_c.specs.Text.{TextBeginsWith}
use Rattle.crossterm_c.proofs.text.write_text.Given as goal

-- The text of the bytes before this place was written.
abbrev pub invariant-loop-place : goal.invariant-loop-place
invariant-loop-place l = record {
  within : l.place ≤ length l.bytes;
  fits : l.written ≤ length l.text;
  text : TextBeginsWith l.bytes (take l.written l.text) l.place;
}

abbrev pub decreases-loop-place : goal.decreases-loop-place
decreases-loop-place l = length l.bytes - l.place
