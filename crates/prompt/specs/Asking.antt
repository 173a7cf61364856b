-- What happens as a line is asked for, event by event.
use Rattle.std.specs.Prelude.{◌≡◌, ℕ, Bool, false, cond, List, Option, Some, Result, string_bytes}
use Rattle.std.specs.Str.{chars}
use Rattle.std.specs.declared.io.Error.{Error}
use Rattle.std.specs.declared.io.ErrorKind.{ErrorKind}
use Rattle.std.specs.declared.io.ErrorKind.TheVariants.{OutOfMemory}
use Rattle.std.specs.declared.time.Duration.{Duration}
use Rattle.crossterm_types.specs.Seen.{Seen}
use Rattle.crossterm_types.specs.declared.event.filter.AnyFilter.TheVariants as filters
use Rattle.crossterm_read.specs.Answers.{SourceAnswer}
use Rattle.crossterm_read.specs.Entries.{AsksPosition, Polls, Reads}
use Rattle.crossterm_read.specs.History.{Known}
use Rattle.crossterm_read.specs.Replies.{Came, Faulted}
use Rattle.crossterm.specs.Asking.{InTwoSeconds}
use Rattle.line_editor.specs.Bounds.{is_too_long}
use Rattle.line_editor.specs.States.{EditorState}
use Rattle.line_editor.specs.Turns.{Answer, Going, Line, Interrupted, Closed, IsGoing, answer, event_more, task_of, turned}
use Rattle.prompt.specs.declared.read.Read.{Read}
use Rattle.prompt.specs.declared.read.Read.TheVariants as read

-- The editor after an event. If the event's text is too long, nothing changes.
abbrev pub after_event : Seen → EditorState → EditorState
after_event e w = cond (is_too_long (event_more e w) w) w (turned e w)

-- The outcome of an event: that of its turn, or the line goes on if its text is too long.
abbrev pub answer_to : Seen → EditorState → Answer
answer_to e w = cond (is_too_long (event_more e w) w) Going (answer (task_of e w) w)

-- What contracts see of what was asked for: a line is its text.
abbrev pub answer_seen : {A : Type 0} → Read A → Answer
answer_seen (read.Line text) = Line (chars (string_bytes text))
answer_seen read.Interrupted = Interrupted
answer_seen read.Closed = Closed

-- A pass asked the terminal for the cursor's place, for two seconds at most, whatever came of it.
abbrev pub AsksPlace : {S : Type 0} → (S → List SourceAnswer → S → Type 0) → (S → List (Option Duration)) → Known S → Known S → Type 0
AsksPlace drawn asked v w = (start : ℕ) × (after : ℕ) × (result : Result (ℕ × ℕ) Error) × InTwoSeconds (λ limit. AsksPosition drawn asked limit (λ n. n ≡ start) after v w result)

-- A pass waited for an event by a poll, whatever came of it.
abbrev pub Waits : {S : Type 0} → (S → List SourceAnswer → S → Type 0) → (S → List (Option Duration)) → Known S → Known S → Type 0
Waits drawn asked v w = (limit : Duration) × (start : ℕ) × (after : ℕ) × (result : Result Bool Error) × Polls drawn asked filters.Event (Some limit) (λ n. n ≡ start) after v w result

-- A line goes on: a pass read events from `v` on, and the editor took what it is given for each from `w` on. None ended
-- the line.
pub data GoesOn {S : Type 0} (drawn : S → List SourceAnswer → S → Type 0) (asked : S → List (Option Duration)) (given : EditorState → Seen → Seen) (v : Known S) (w : EditorState) : Known S → EditorState → Type 0 where
  -- Nothing was read.
  unread : GoesOn drawn asked given v w v w
  -- The line went on, one more event was read, and it goes on after it.
  further : (p q : Known S) (k : EditorState) (e : Seen) → GoesOn drawn asked given v w p k → Reads drawn asked filters.Event p q (Came (Some e)) → IsGoing (answer_to (given k e) k)
      → GoesOn drawn asked given v w q (after_event (given k e) k)
  -- The line went on, and the terminal was asked for the cursor's place: the editor is as it was.
  placed : (p q : Known S) (k : EditorState) → GoesOn drawn asked given v w p k → AsksPlace drawn asked p q → GoesOn drawn asked given v w q k
  -- The line went on, and an event was waited for: the editor is as it was.
  waited : (p q : Known S) (k : EditorState) → GoesOn drawn asked given v w p k → Waits drawn asked p q → GoesOn drawn asked given v w q k

-- A line ends with this outcome: it went on, and then one more event was read, which has this outcome.
pub record LineEnds {S : Type 0} (drawn : S → List SourceAnswer → S → Type 0) (asked : S → List (Option Duration)) (given : EditorState → Seen → Seen) (v : Known S) (w : EditorState) (a : Answer) (u : Known S) (z : EditorState) : Type 0 where
  pub before : Known S
  pub line : EditorState
  pub event : Seen
  pub goes : GoesOn drawn asked given v w before line
  pub reads : Reads drawn asked filters.Event before u (Came (Some event))
  pub ends : answer_to (given line event) line ≡ a
  pub left : z ≡ after_event (given line event) line

-- Asking stops with an error of this kind. The editor took all events that were read, but not one for which memory
-- was refused.
pub data StopsAsking {S : Type 0} (drawn : S → List SourceAnswer → S → Type 0) (asked : S → List (Option Duration)) (given : EditorState → Seen → Seen) (v : Known S) (w : EditorState) (kind : ErrorKind) (u : Known S) (z : EditorState) : Type 0 where
  -- The prompt or memory was refused, or the writer, the device of modes, a question or a wait failed: the line went on so far.
  stopped : GoesOn drawn asked given v w u z → StopsAsking drawn asked given v w kind u z
  -- The next read failed with this error.
  broke : (p : Known S) → GoesOn drawn asked given v w p z → Reads drawn asked filters.Event p u (Faulted kind) → StopsAsking drawn asked given v w kind u z
  -- Memory was refused for the event that was read next, and what the editor was given has room.
  refused : (p : Known S) (e : Seen) → GoesOn drawn asked given v w p z → Reads drawn asked filters.Event p u (Came (Some e)) → is_too_long (event_more (given z e) z) z ≡ false → kind ≡ OutOfMemory → StopsAsking drawn asked given v w kind u z
