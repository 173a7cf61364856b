-- The line goes on, and it is shown.
use Rattle.std.proofs.Common.{◌≡◌, ℕ, true, false, IsTrue, List, [], Option, is_some}
use Rattle.crossterm_read.specs.PassViews.{knows}
use Rattle.prompt.specs.Asking.{GoesOn}
use Rattle.prompt.specs.Completing.{given_by}
use Rattle.prompt.specs.Frames.{area_of}
use Rattle.prompt.specs.Written.{GoesOnShown, HasWritten, Shows, look_of}
use Rattle.prompt.proofs.asking.go_on.Given as goal

abbrev pub invariant-loop : goal.invariant-loop
invariant-loop g l = record {
  goes : GoesOn g.S.EventSource.drawn g.S.EventSource.asked (given_by (g.H.Helper.completes l.fn.prompt.helper.now)) (knows l.fn.tty.pass) l.fn.editor (knows l.tty.pass) l.editor;
  shown : (out : Option (List ℕ)) → (l.fn.rows.is_asked ≡ true → l.fn.prompt.asks ≡ true)
      → HasWritten (look_of (given_by (g.H.Helper.completes l.fn.prompt.helper.now)) (g.H.Helper.hints l.fn.prompt.helper.now) (g.H.Helper.candidates l.fn.prompt.helper.now) l.fn.prompt) l.fn.editor [] l.fn.editor (Shows (area_of l.fn.rows) false) out (g.W.Write.contents l.fn.tty.out)
      → GoesOnShown g.S.EventSource.drawn g.S.EventSource.asked (look_of (given_by (g.H.Helper.completes l.fn.prompt.helper.now)) (g.H.Helper.hints l.fn.prompt.helper.now) (g.H.Helper.candidates l.fn.prompt.helper.now) l.fn.prompt) (knows l.fn.tty.pass) l.fn.editor (knows l.tty.pass) l.editor (area_of l.rows) l.tabbed l.lists out (g.W.Write.contents l.tty.out);
  fewer : l.rows.is_asked ≡ true → l.fn.rows.is_asked ≡ true;
  features : l.tty.features ≡ l.fn.tty.features;
  mode : IsTrue (is_some l.fn.tty.term.prior) → l.tty.term.prior ≡ l.fn.tty.term.prior;
  can : (goal.iterator-loop g).can_next l.iterator';
  ends : (goal.iterator-loop g).is_finite l.iterator';
}
