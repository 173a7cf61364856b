-- What happens at one event.
use Rattle.std.specs.Prelude.{◌≡◌, ◌⊎◌, ℕ, Bool, false, true, cond, List, [], Option}
use Rattle.std.specs.Io.KnownBytes.{Appends}
use Rattle.std.specs.IoError.{error_kind}
use Rattle.std.specs.declared.time.Duration.{Duration}
use Rattle.crossterm_types.specs.Seen.{Seen}
use Rattle.crossterm_read.specs.Answers.{SourceAnswer}
use Rattle.crossterm_read.specs.History.{Known}
use Rattle.crossterm_command.specs.Writing.{AppendsFront}
use Rattle.crossterm.specs.Asking.{position_query}
use Rattle.line_editor.specs.Bounds.{is_too_long}
use Rattle.line_editor.specs.States.{EditorState}
use Rattle.line_editor.specs.Turns.{Answer, event_more}
use Rattle.line_editor.specs.Turns as turns
use Rattle.prompt.specs.declared.asking.Taken.{Taken}
use Rattle.prompt.specs.declared.asking.Taken.TheVariants as taken
use Rattle.prompt.specs.declared.asking.Turn.{Turn}
use Rattle.prompt.specs.declared.asking.Turn.TheVariants as turn
use Rattle.prompt.specs.Asking.{AsksPlace, LineEnds, StopsAsking, GoesOn, answer_to, answer_seen, after_event}
use Rattle.prompt.specs.Frames.{Area}
use Rattle.prompt.specs.Written.{GoesOnShown, LineEndsShown, PromptView, Stage, Due, Resized, StopsShown, resizes}

-- An editor took an event, which has this outcome.
abbrev pub TakesAs : Answer → Seen → EditorState → EditorState → Type 0
TakesAs a e w z = (answer_to e w ≡ a) × (z ≡ after_event e w)

-- An editor took an event: its text has room, or is too long and changes nothing. Or memory was refused for it. Then its
-- text has room, and nothing has changed.
abbrev pub IsTaken : {A : Type 0} → Taken A → Seen → EditorState → EditorState → Type 0
IsTaken taken.Going e w z = TakesAs turns.Going e w z × (is_too_long (event_more e w) w ≡ false)
IsTaken taken.Clear e w z = TakesAs turns.Clear e w z
IsTaken taken.Ring e w z = TakesAs turns.Ring e w z
IsTaken taken.TooLong e w z = TakesAs turns.Going e w z × (is_too_long (event_more e w) w ≡ true)
IsTaken (taken.Ended read) e w z = TakesAs (answer_seen read) e w z
IsTaken taken.Refused e w z = (is_too_long (event_more e w) w ≡ false) × (z ≡ w)

-- A turn leads on, to the line's end, or to an error.
abbrev pub Leads : {S A : Type 0} → (S → List SourceAnswer → S → Type 0) → (S → List (Option Duration)) → (EditorState → Seen → Seen) → Known S → EditorState → Turn A → Known S → EditorState → Type 0
Leads drawn asked given v w (turn.Going tab lists) u z = GoesOn drawn asked given v w u z
Leads drawn asked given v w (turn.Ended read) u z = LineEnds drawn asked given v w (answer_seen read) u z
Leads drawn asked given v w (turn.Failed error) u z = StopsAsking drawn asked given v w (error_kind error) u z

-- A pass asked the terminal for the cursor's place, or it is as it was.
abbrev pub MayAsk : {S : Type 0} → (S → List SourceAnswer → S → Type 0) → (S → List (Option Duration)) → Known S → Known S → Type 0
MayAsk drawn asked v w = AsksPlace drawn asked v w ⊎ (w ≡ v)

-- A writer's bytes grew by the query for the cursor's place or a beginning of it, if the terminal is asked, or by
-- nothing.
abbrev pub MayQuery : Bool → Option (List ℕ) → Option (List ℕ) → Type 0
MayQuery asks old new = ((asks ≡ true) × AppendsFront old new position_query) ⊎ Appends old new []

-- How far the line is shown once an event was taken.
abbrev pub stage_after : Seen → Area → Stage
stage_after e a = cond (resizes e) (Resized a false) (Due a false)

-- A turn leads on, to the line's end, or to an error, and what was written is known.
abbrev pub LeadsShown : {S A : Type 0} → (S → List SourceAnswer → S → Type 0) → (S → List (Option Duration)) → PromptView → Known S → EditorState → Turn A → Known S → EditorState → Area → Option (List ℕ) → Option (List ℕ) → Type 0
LeadsShown drawn asked look v w (turn.Going tab lists) u z a old new = GoesOnShown drawn asked look v w u z a tab lists old new
LeadsShown drawn asked look v w (turn.Ended read) u z a old new = LineEndsShown drawn asked look v w (answer_seen read) u z old new
LeadsShown drawn asked look v w (turn.Failed error) u z a old new = StopsShown drawn asked look v w (error_kind error) u z old new
