-- The lines of several calls.
use Rattle.std.specs.Prelude.{◌≡◌, ℕ, cond, List, [], ◌∷◌, ◌++◌, Option}
use Rattle.std.specs.declared.time.Duration.{Duration}
use Rattle.crossterm_types.specs.Seen.{Seen}
use Rattle.crossterm_read.specs.Answers.{SourceAnswer}
use Rattle.crossterm_read.specs.History.{Known}
use Rattle.line_editor.specs.Bounds.{is_too_long}
use Rattle.line_editor.specs.States.{EditorState}
use Rattle.line_editor.specs.Turns.{Answer, after_events, event_more, lines_in, lines_of_events, turned}
use Rattle.prompt.specs.Asking.{LineEnds, GoesOn, unread, further, placed, waited}

-- The events that were read while a line went on, in order.
abbrev pub going_on_events : {S : Type 0} {drawn : S → List SourceAnswer → S → Type 0} {asked : S → List (Option Duration)} {given : EditorState → Seen → Seen} {v : Known S} {w : EditorState} {p : Known S} {k : EditorState} → GoesOn drawn asked given v w p k → List Seen
going_on_events unread = []
going_on_events (further p q k e goes reads going) = going_on_events goes ++ e ∷ []
going_on_events (placed p q k goes asks) = going_on_events goes
going_on_events (waited p q k goes waits) = going_on_events goes

-- All events that were read for a line, the last one too.
abbrev pub read_for_line : {S : Type 0} {drawn : S → List SourceAnswer → S → Type 0} {asked : S → List (Option Duration)} {given : EditorState → Seen → Seen} {v u : Known S} {w z : EditorState} {a : Answer} → LineEnds drawn asked given v w a u z → List Seen
read_for_line ends = going_on_events ends.goes ++ ends.event ∷ []

-- What an editor takes of what it is given for events that were read: those whose texts have room.
abbrev pub taken_events : (EditorState → Seen → Seen) → List Seen → EditorState → List Seen
taken_events given [] w = []
taken_events given (e ∷ events) w =
    cond (is_too_long (event_more (given w e) w) w) (taken_events given events w) (given w e ∷ taken_events given events (turned (given w e) w))

-- Calls for lines were made one after another: these events were read, and these lines returned.
pub data Calls {S : Type 0} (drawn : S → List SourceAnswer → S → Type 0) (asked : S → List (Option Duration)) (given : EditorState → Seen → Seen) (v : Known S) (w : EditorState) : Known S → EditorState → List Seen → List (List ℕ) → Type 0 where
  -- No call was made.
  uncalled : Calls drawn asked given v w v w [] []
  -- One more call was made.
  called : (p q : Known S) (k l : EditorState) (events : List Seen) (lines : List (List ℕ)) (a : Answer) → Calls drawn asked given v w p k events lines → (ends : LineEnds drawn asked given p k a q l) → Calls drawn asked given v w q l (events ++ read_for_line ends) (lines ++ lines_in a)

-- These lines come out of what an editor takes of the events that were read, which leads to this state of it.
pub record GivesLines (given : EditorState → Seen → Seen) (events : List Seen) (w : EditorState) (lines : List (List ℕ)) (z : EditorState) : Type 0 where
  pub come : lines_of_events (taken_events given events w) w ≡ lines
  pub left : after_events (taken_events given events w) w ≡ z
