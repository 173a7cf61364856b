-- Bounds that an editor keeps, whatever was done to it.
use Rattle.std.specs.Prelude.{◌≡◌, ⊤, ℕ, ◌+◌, ◌<◌, ◌≤◌, ◌==◌, ◌||◌, Bool, false, List, [], ◌∷◌, length, map}
use Rattle.std.specs.List.{AllByRecursion}
use Rattle.line_editor.specs.declared.limits.Limits.{Limits}
use Rattle.line_editor.specs.Bounds.{is_too_long, size}
use Rattle.line_editor.specs.History.{history_of, saved}
use Rattle.line_editor.specs.Shown.{AreIn}
use Rattle.line_editor.specs.Splits.{Split, line_text}
use Rattle.line_editor.specs.States.{DraftState, EditorState, LeftLine, fresh}
use Rattle.line_editor.specs.Tasks.{Task, done, task_more}

-- A line is held if each of its characters comes into a line, and it has no more bytes than the limit. So it has no control
-- character but line feeds, and those only if the limits let lines have several rows.
abbrev pub IsHeld : Limits → Split → Type 0
IsHeld limits d = AreIn limits.multiline (line_text d) × (size (line_text d) ≤ limits.bytes)

-- A line of the history is held, isn't empty, and has its cursor at its end.
abbrev pub IsKept : Limits → Split → Type 0
IsKept limits d = IsHeld limits d × (0 < size (line_text d)) × (d.after ≡ [])

-- A line that was left is held, and so is what can be undone and redone of it.
pub record IsLeft (limits : Limits) (x : DraftState) : Type 0 where
  pub line : IsHeld limits x.line
  pub past : AllByRecursion (IsHeld limits) x.past
  pub undone : AllByRecursion (IsHeld limits) x.undone
  pub steps : length x.past + length x.undone ≤ limits.steps

-- Whether a place is one of these.
abbrev pub is_among : ℕ → List ℕ → Bool
is_among n [] = false
is_among n (m ∷ places) = m == n || is_among n places

-- Each of these places is in a history of so many lines, or is 0, and none comes twice.
abbrev pub ArePlaces : ℕ → List ℕ → Type 0
ArePlaces count [] = ⊤
ArePlaces count (n ∷ places) = (n ≤ count) × (is_among n places ≡ false) × ArePlaces count places

-- The places of lines that were left.
abbrev pub places_of : List LeftLine → List ℕ
places_of left = map (λ (x : LeftLine). x.place) left

-- All lines of an editor are held, and there are no more of them than the limits say.
pub record IsBounded (w : EditorState) : Type 0 where
  pub line : IsHeld w.limits w.line
  pub left : AllByRecursion (λ (x : LeftLine). IsLeft w.limits x.draft) w.left
  pub past : AllByRecursion (IsHeld w.limits) w.past
  pub undone : AllByRecursion (IsHeld w.limits) w.undone
  pub history : AllByRecursion (IsKept w.limits) w.history
  pub kills : AllByRecursion (AreIn w.limits.multiline) w.kills
  pub pattern : IsHeld w.limits w.search.pattern
  pub began : IsHeld w.limits w.search.line
  pub lines : length w.history ≤ w.limits.lines
  pub steps : length w.past + length w.undone ≤ w.limits.steps
  -- The line that is shown and those that were left have places of their own, so they aren't more than the history has.
  pub places : ArePlaces (length w.history) (w.back ∷ places_of w.left)
  pub others : length w.left ≤ length w.history
  pub searched : w.search.back ≤ length w.history

-- The editor after tasks, one after another.
abbrev pub all_done : List Task → EditorState → EditorState
all_done [] w = w
all_done (task ∷ tasks) w = all_done tasks (done task w)

-- Each task in turn has room in the line for what it writes.
abbrev pub AreRoomy : List Task → EditorState → Type 0
AreRoomy [] w = ⊤
AreRoomy (task ∷ tasks) w = (is_too_long (task_more task w) w ≡ false) × AreRoomy tasks (done task w)

-- A fresh editor stays within its limits after any tasks whose texts have room.
abbrev pub StaysBounded : Limits → List Task → Type 0
StaysBounded limits tasks = AreRoomy tasks (fresh limits) → IsBounded (all_done tasks (fresh limits))

-- The history of a bounded editor, saved as a text and loaded again, is the same history.
abbrev pub LoadsSaved : EditorState → Type 0
LoadsSaved w = IsBounded w → history_of w.limits (saved w.limits.multiline w.history) ≡ w.history
