-- The line goes on, and it is shown.
use Rattle.std.proofs.Common.{◌≡◌, ℕ, Bool, true, List, Option, is_some}
use Rattle.crossterm_types.specs.Seen.{Seen}
use Rattle.crossterm_read.specs.History.{Known}
use Rattle.crossterm_read.specs.PassViews.{knows}
use Rattle.line_editor.specs.States.{EditorState}
use Rattle.prompt.specs.Asking.{GoesOn}
use Rattle.prompt.specs.Frames.{area_of}
use Rattle.prompt.specs.Written.{GoesOnShown, look_of}
use Rattle.prompt.proofs.asking.wait_printing.Given as goal

abbrev pub invariant-loop : goal.invariant-loop
invariant-loop g l = record {
  leads : (given : EditorState → Seen → Seen) (v : Known g.row.S.Denot) (w : EditorState) → GoesOn g.S.EventSource.drawn g.S.EventSource.asked given v w (knows l.fn.tty.pass) l.fn.editor
      → GoesOn g.S.EventSource.drawn g.S.EventSource.asked given v w (knows l.tty.pass) l.fn.editor;
  shown : (given : EditorState → Seen → Seen) (v : Known g.row.S.Denot) (w : EditorState) (tab : Bool) (out : Option (List ℕ)) → is_some l.fn.prompt.printer ≡ true
      → GoesOnShown g.S.EventSource.drawn g.S.EventSource.asked (look_of given (g.H.Helper.hints l.fn.prompt.helper.now) (g.H.Helper.candidates l.fn.prompt.helper.now) l.fn.prompt) v w
      (knows l.fn.tty.pass) l.fn.editor (area_of l.fn.rows) tab l.fn.lists out (g.W.Write.contents l.fn.tty.out)
      → GoesOnShown g.S.EventSource.drawn g.S.EventSource.asked (look_of given (g.H.Helper.hints l.fn.prompt.helper.now) (g.H.Helper.candidates l.fn.prompt.helper.now) l.fn.prompt) v w
      (knows l.tty.pass) l.fn.editor (area_of l.rows) tab l.fn.lists out (g.W.Write.contents l.tty.out);
  asked : l.rows.is_asked ≡ l.fn.rows.is_asked;
  others : (l.tty.term ≡ l.fn.tty.term) × (l.tty.features ≡ l.fn.tty.features);
  can : (goal.iterator-loop g).can_next l.iterator';
  ends : (goal.iterator-loop g).is_finite l.iterator';
}
