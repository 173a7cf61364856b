use Rattle.std.proofs.Common.{◌≡◌, ◌≤◌, ◌-◌, ◌++◌, ℕ, Bool, true, List, take, length}
use Rattle.crossterm_types.specs.Seen.{Seen}
use Rattle.crossterm_parse.specs.States.{is_paste}
use Rattle.crossterm_parse.specs.Marked.{marked}
use Rattle.crossterm_parse.specs.View.{AdvancesOver}
use Rattle.crossterm_c.specs.Feeding.{view_of}
use Rattle.crossterm_c.proofs.feed.feed_paste.Given as goal

-- The bytes before this one were taken, and the paste is open still.
abbrev pub invariant-loop-place : goal.invariant-loop-place
invariant-loop-place g l = record {
  within : l.place ≤ length l.piece;
  pasting : is_paste l.state ≡ true;
  pastes : (more raw : Bool) (kept : List ℕ) (waiting : List Seen) →
      AdvancesOver (view_of l.initial.state kept waiting) (view_of l.state (kept ++ take l.place l.piece) waiting) (take l.place (marked l.piece more raw));
}

abbrev pub decreases-loop-place : goal.decreases-loop-place
decreases-loop-place g l = length l.piece - l.place
