-- Which texts have room in a line, and what is refused.
use Rattle.std.specs.Prelude.{◌≡◌, ⊤, ℕ, ◌-◌, nat_lt, Bool, false, cond, List, [], ◌∷◌, ◌++◌, length, encode_utf8_all, Option, Some, None}
use Rattle.std.specs.declared.io.ErrorKind.{ErrorKind}
use Rattle.std.specs.declared.io.ErrorKind.TheVariants.{OutOfMemory, InvalidInput}
use Rattle.line_editor.specs.declared.actions.Action.{Action}
use Rattle.line_editor.specs.declared.actions.Action.TheVariants.{CaseWord, Insert, LastWord, Yank, YankPop}
use Rattle.line_editor.specs.declared.actions.Case.{Case}
use Rattle.line_editor.specs.declared.fault.EditFault.{EditFault}
use Rattle.line_editor.specs.declared.fault.EditFault.TheVariants.{Memory, TooLong}
use Rattle.line_editor.specs.declared.places.Stop.TheVariants.{WordEnd}
use Rattle.line_editor.specs.declared.places.Target.TheVariants.{Forward}
use Rattle.line_editor.specs.Cases.{cased}
use Rattle.line_editor.specs.Edits.{cut_text}
use Rattle.line_editor.specs.Kills.{kill_at}
use Rattle.line_editor.specs.Shown.{part_in}
use Rattle.line_editor.specs.Splits.{line_text}
use Rattle.line_editor.specs.States.{EditorState, after, before_taken, before_yank, next_word, next_yank, run_actions, taken, yanked}

-- The number of bytes that a text has in UTF-8.
abbrev pub size : List ℕ → ℕ
size text = length (encode_utf8_all text)

-- How many more bytes have room in the line: what its own text leaves of the limit.
abbrev pub room_of : EditorState → ℕ
room_of w = w.limits.bytes - size (line_text w.line)

-- Whether there is no room in the line for so many more bytes.
abbrev pub is_too_long : ℕ → EditorState → Bool
is_too_long more w = nat_lt (room_of w) more

-- How many more bytes the line has with the next kill of the ring in place of the yanked text.
abbrev pub popped_more : Option (List ℕ) → EditorState → ℕ
popped_more None w = 0
popped_more (Some before) w = size (kill_at w.kills (next_yank w)) - size (yanked w)

-- How many more bytes the line has with the next word in place of the one that was taken last.
abbrev pub taken_more : Option (List ℕ) → EditorState → ℕ
taken_more None w = 0
taken_more (Some before) w = size (next_word w) - size (taken w)

-- How many more bytes a text has in a case.
abbrev pub cased_more : Case → List ℕ → ℕ
cased_more case text = size (cased case text) - size text

-- How many more bytes the line has after an action that writes, or 0. A typed character has none if it doesn't come in. A
-- yank has those of its kill, and a turn of the ring what the next kill has more. A word that takes another one's place
-- has what it has more.
abbrev pub more_by : Action → EditorState → ℕ
more_by (Insert c) w = size (part_in w.limits.multiline (c ∷ []))
more_by Yank w = size (yanked w)
more_by YankPop w = popped_more (before_yank w) w
more_by (CaseWord case) w = cased_more case (cut_text (Forward WordEnd) w.line)
more_by LastWord w = taken_more (before_taken w) w
more_by action w = 0

-- The fault with which so many more bytes are refused: `TooLong` if they have no room, otherwise `Memory`.
abbrev pub refusal_of : ℕ → EditorState → EditFault
refusal_of more w = cond (is_too_long more w) TooLong Memory

-- The kind of the error that a fault becomes.
abbrev pub line_fault_kind : EditFault → ErrorKind
line_fault_kind Memory = OutOfMemory
line_fault_kind TooLong = InvalidInput

-- Each action in turn has room in the line for what it writes.
abbrev pub AreAllowed : List Action → EditorState → Type 0
AreAllowed [] w = ⊤
AreAllowed (a ∷ actions) w = (is_too_long (more_by a w) w ≡ false) × AreAllowed actions (after a w)

-- A run stopped at an action that was refused: the actions before it were done, and nothing else.
pub record StopsAt (fault : EditFault) (actions : List Action) (w v : EditorState) : Type 0 where
  pub front : List Action
  pub action : Action
  pub left : List Action
  pub are : actions ≡ front ++ action ∷ left
  pub allowed : AreAllowed front w
  pub done : v ≡ run_actions front w
  pub why : fault ≡ refusal_of (more_by action v) v
