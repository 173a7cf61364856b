-- The tasks of an editor, each of which a call does.
use Rattle.std.specs.Prelude.{ℕ, Bool, List}
use Rattle.line_editor.specs.declared.actions.Action.{Action}
use Rattle.line_editor.specs.Bounds.{more_by, size}
use Rattle.line_editor.specs.History.{loaded}
use Rattle.line_editor.specs.Seeking.{given_up, sought_less, sought_more, sought_next}
use Rattle.line_editor.specs.Shown.{pasted_part}
use Rattle.line_editor.specs.States.{EditorState, accepted, after, broken_off, dropped, pasted_into}

-- A task, which a call does to an editor.
pub data Task : Type 0 where
  -- An action is done.
  Acts : Action → Task
  -- A text is pasted.
  Pastes : List ℕ → Task
  -- The line is accepted.
  Accepts : Task
  -- The line ends without being accepted.
  LetsGo : Task
  -- A history is loaded from a text.
  Loads : List ℕ → Task
  -- An incremental search begins or goes on, to newer lines if that is true.
  Seeks : Bool → Task
  -- A character is typed into what it looks for.
  SeeksMore : ℕ → Task
  -- The last cluster of what it looks for is taken back.
  SeeksLess : Task
  -- It is given up, and the line from which it began comes back.
  GivesUp : Task
  -- The line that it found is taken.
  Ends : Task
  -- The window is cleared, and the line goes on.
  Clears : Task
  -- The editor is closed while its line is empty.
  Closes : Task
  -- Nothing is done.
  Nothing : Task

-- The editor after a task. Closing changes nothing.
abbrev pub done : Task → EditorState → EditorState
done (Acts action) w = after action w
done (Pastes text) w = pasted_into text w
done Accepts w = accepted w
done LetsGo w = dropped w
done (Loads text) w = loaded text w
done (Seeks ahead) w = sought_next ahead w
done (SeeksMore c) w = sought_more c w
done SeeksLess w = sought_less w
done GivesUp w = given_up w
done Ends w = broken_off w
done Clears w = broken_off w
done Closes w = w
done Nothing w = w

-- How many more bytes the line has after a task that writes, or 0. A paste has those of what of it comes into the line.
abbrev pub task_more : Task → EditorState → ℕ
task_more (Acts action) w = more_by action w
task_more (Pastes text) w = size (pasted_part w.limits.multiline text)
task_more task w = 0
