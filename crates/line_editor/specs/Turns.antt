-- Events, and what an editor does at them, one after another.
use Rattle.std.specs.Prelude.{◌≡◌, ◌==◌, ⊤, ℕ, true, false, List, [], ◌∷◌, ◌++◌, Bool, Option, Some, None, if◌then◌else◌, not, string_bytes}
use Rattle.std.specs.Str.{chars}
use Rattle.crossterm_types.specs.Seen.{Seen}
use Rattle.crossterm_types.specs.Seen as seen
use Rattle.line_editor.specs.declared.actions.Action.TheVariants.{Erase, Insert}
use Rattle.line_editor.specs.declared.fault.EditFault.{EditFault}
use Rattle.line_editor.specs.declared.fault.EditFault.TheVariants.{TooLong}
use Rattle.line_editor.specs.declared.keys.KeyCommand.{KeyCommand}
use Rattle.line_editor.specs.declared.keys.KeyCommand.TheVariants as asks
use Rattle.line_editor.specs.declared.outcome.Outcome.{Outcome}
use Rattle.line_editor.specs.declared.outcome.Outcome.TheVariants as outcome
use Rattle.line_editor.specs.declared.places.Stop.TheVariants.{Cluster}
use Rattle.line_editor.specs.declared.places.Target.TheVariants.{Back, Forward}
use Rattle.line_editor.specs.declared.seeking.SearchKey.{SearchKey}
use Rattle.line_editor.specs.declared.seeking.SearchKey.TheVariants.{GiveUp, Less, More}
use Rattle.line_editor.specs.Bounds.{is_too_long}
use Rattle.line_editor.specs.Keys.{command_of}
use Rattle.line_editor.specs.Seeking.{is_seeking, rings_less, rings_more, rings_next}
use Rattle.line_editor.specs.Splits.{line_text}
use Rattle.line_editor.specs.States.{EditorState}
use Rattle.line_editor.specs.Tasks.{Task, Acts, Pastes, Accepts, LetsGo, Seeks, SeeksMore, SeeksLess, GivesUp, Ends, Clears, Closes, Nothing, done, task_more}

-- The task of Control-D: an empty text closes, and in another one the cluster at the cursor is erased.
abbrev pub erase_or_close : List ℕ → Task
erase_or_close [] = Closes
erase_or_close (c ∷ text) = Acts (Erase (Forward Cluster))

-- The task of a command if no search goes on.
abbrev pub plain_task : KeyCommand → EditorState → Task
plain_task (asks.Act action) w = Acts action
plain_task asks.Accept w = Accepts
plain_task asks.Interrupt w = LetsGo
plain_task asks.EraseOrClose w = erase_or_close (line_text w.line)
plain_task asks.Clear w = Clears
plain_task asks.SearchBack w = Seeks false
plain_task asks.SearchAhead w = Seeks true
plain_task asks.Abort w = GivesUp
plain_task asks.EndSearch w = Ends

-- The key of a command as it is to a search, or `None` if it ends that. Characters and Backspace are for what it looks
-- for, and an interrupt gives it up. A line feed ends it.
abbrev pub search_key : KeyCommand → Option SearchKey
search_key (asks.Act (Insert c)) = if c == 10 then None else Some (More c)
search_key (asks.Act (Erase (Back Cluster))) = Some Less
search_key asks.Interrupt = Some GiveUp
search_key command = None

-- The task of a key of a search.
abbrev pub search_task : SearchKey → Task
search_task (More c) = SeeksMore c
search_task Less = SeeksLess
search_task GiveUp = GivesUp

-- The task of a command while a search goes on.
abbrev pub seeking_task : Option SearchKey → KeyCommand → EditorState → Task
seeking_task None command w = plain_task command w
seeking_task (Some key) command w = search_task key

-- The task of a command.
abbrev pub task_of_command : KeyCommand → EditorState → Task
task_of_command command w = if is_seeking w.last then seeking_task (search_key command) command w else plain_task command w

-- The task of a key with a command. A key without one does nothing.
abbrev pub task_of_key : Option KeyCommand → EditorState → Task
task_of_key (Some command) w = task_of_command command w
task_of_key None w = Nothing

-- The task of an event: that of a key's command, a paste, or nothing for any other event.
abbrev pub task_of : Seen → EditorState → Task
task_of (seen.Key key) w = task_of_key (command_of key) w
task_of (seen.Paste text) w = Pastes (chars text)
task_of event w = Nothing

-- An outcome as contracts see it: a line is its text.
pub data Answer : Type 0 where
  -- The line goes on.
  Going : Answer
  -- The line goes on, and is drawn anew at the top of an empty window.
  Clear : Answer
  -- The line goes on, and the bell rings.
  Ring : Answer
  -- The line was accepted.
  Line : List ℕ → Answer
  -- The line was interrupted.
  Interrupted : Answer
  -- The empty line was closed.
  Closed : Answer

-- An outcome, as contracts see it.
abbrev pub seen_outcome : {A : Type 0} → Outcome A → Answer
seen_outcome outcome.Going = Going
seen_outcome outcome.Clear = Clear
seen_outcome outcome.Ring = Ring
seen_outcome (outcome.Line text) = Line (chars (string_bytes text))
seen_outcome outcome.Interrupted = Interrupted
seen_outcome outcome.Closed = Closed

-- The outcome of a key that may only ring.
abbrev pub ring_if : Bool → Answer
ring_if true = Ring
ring_if false = Going

-- The outcome of a task: the line's text if it is accepted, an interruption, a closing, a clearing, or else the line
-- goes on. The bell rings if a search finds nothing, or if there is none to give up.
abbrev pub answer : Task → EditorState → Answer
answer Accepts w = Line (line_text w.line)
answer LetsGo w = Interrupted
answer Clears w = Clear
answer (Seeks ahead) w = ring_if (rings_next ahead w)
answer (SeeksMore c) w = ring_if (rings_more c w)
answer SeeksLess w = ring_if (rings_less w)
answer GivesUp w = ring_if (not (is_seeking w.last))
answer Closes w = Closed
answer task w = Going

-- The editor after an event.
abbrev pub turned : Seen → EditorState → EditorState
turned event w = done (task_of event w) w

-- How many more bytes the line has after an event that writes, or 0, by its task.
abbrev pub event_more : Seen → EditorState → ℕ
event_more event w = task_more (task_of event w) w

-- The line goes on after an outcome.
abbrev pub IsGoing : Answer → Type 0
IsGoing Going = ⊤
IsGoing Clear = ⊤
IsGoing Ring = ⊤
IsGoing answer = ⊥

-- The line of an outcome, if it is one.
abbrev pub lines_in : Answer → List (List ℕ)
lines_in (Line text) = text ∷ []
lines_in answer = []

-- The editor after events, one after another.
abbrev pub after_events : List Seen → EditorState → EditorState
after_events [] w = w
after_events (event ∷ events) w = after_events events (turned event w)

-- The lines that are accepted as events come, one after another.
abbrev pub lines_of_events : List Seen → EditorState → List (List ℕ)
lines_of_events [] w = []
lines_of_events (event ∷ events) w = lines_in (answer (task_of event w) w) ++ lines_of_events events (turned event w)

-- Each event in turn has room in the line for what it writes.
abbrev pub AreTaken : List Seen → EditorState → Type 0
AreTaken [] w = ⊤
AreTaken (event ∷ events) w = (is_too_long (event_more event w) w ≡ false) × AreTaken events (turned event w)

-- A run of events stopped before one that was refused: those before it were taken, and nothing else was done.
pub record StopsBefore (fault : EditFault) (events : List Seen) (w v : EditorState) (before after : List (List ℕ)) : Type 0 where
  pub front : List Seen
  pub event : Seen
  pub left : List Seen
  pub are : events ≡ front ++ event ∷ left
  pub taken : AreTaken front w
  pub made : v ≡ after_events front w
  pub lines : after ≡ before ++ lines_of_events front w
  pub why : fault ≡ TooLong → is_too_long (event_more event v) v ≡ true
