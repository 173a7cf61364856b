-- Laws: what edits keep.
use Rattle.std.specs.Prelude.{◌≡◌, ◌≤◌, ◌<◌, ◌+◌, ◌-◌, ℕ, Some, slice_get, zero, suc, ⊤, Bool, MatchOption, true, false, List, [], ◌∷◌, ◌++◌, ◌==◌, ◌||◌, length, reverse}
use Rattle.std.specs.List.{AllByRecursion}
use Rattle.line_editor.specs.declared.actions.Action.{Action}
use Rattle.line_editor.specs.declared.actions.Action.TheVariants.{Newer, Older, Redo, RowDown, RowUp, Search, SearchForward, Undo}
use Rattle.line_editor.specs.declared.last.Last.TheVariants.{Other}
use Rattle.line_editor.specs.declared.places.Target.{Target}
use Rattle.line_editor.specs.Splits.{Split, line_text}
use Rattle.line_editor.specs.Edits.{cut_text, reach_end, erased, inserted, start_of}
use Rattle.line_editor.specs.Places.{is_between, target_place}
use Rattle.line_editor.specs.Rows.{row_place}
use Rattle.line_editor.specs.Seeking.{contains, first_number, is_wanted, last_number}
use Rattle.line_editor.specs.States.{EditorState, after, run_actions}

-- A move keeps the text.
abbrev pub KeepsText : Target → Split → Type 0
KeepsText target d = line_text (target_place target d) ≡ line_text d

-- Whether a text has a line feed.
abbrev pub has_feed : List ℕ → Bool
has_feed [] = false
has_feed (c ∷ text) = c == 10 || has_feed text

-- The part of a line on the side of the row above, or of the row below.
abbrev pub side : Bool → Split → List ℕ
side true d = d.before
side false d = d.after

-- Going into the row above or below keeps the text. There is such a row exactly if a line feed is on that side.
abbrev pub ChangesRow : Bool → Split → Type 0
ChangesRow up d = MatchOption (row_place up d) (has_feed (side up d) ≡ false) (λ e. (has_feed (side up d) ≡ true) × (line_text e ≡ line_text d))

-- An erasure takes one piece out of the text, and the rest of the text stays.
pub record CutsOut (target : Target) (d : Split) : Type 0 where
  pub was : line_text d ≡ reverse (start_of target d).before ++ (cut_text target d ++ (reach_end target d).after)
  pub stays : line_text (erased target d) ≡ reverse (start_of target d).before ++ (reach_end target d).after

-- An inserted text is at the cursor, and the rest of the text stays.
abbrev pub WritesAt : List ℕ → Split → Type 0
WritesAt text d = line_text (inserted text d) ≡ reverse d.before ++ (text ++ d.after)

-- A kill and then a yank give the text back, if the characters around the cut don't become one cluster in between.
abbrev pub YanksBack : Target → Split → Type 0
YanksBack target d =
    is_between (start_of target d).before (reach_end target d).after ≡ true → line_text (inserted (cut_text target d) (erased target d)) ≡ line_text d

-- An action keeps the accepted lines.
abbrev pub KeepsHistory : Action → EditorState → Type 0
KeepsHistory action w = (after action w).history ≡ w.history

-- ---- history

-- The editor after going back in the history `n` times.
abbrev pub older_times : ℕ → EditorState → EditorState
older_times zero w = w
older_times (suc n) w = older_times n (after Older w)

-- The editor after going forth in the history `n` times.
abbrev pub newer_times : ℕ → EditorState → EditorState
newer_times zero w = w
newer_times (suc n) w = newer_times n (after Newer w)

-- An editor is back at a line of another one: its line has the same text, and the same can be undone and redone. A
-- line that isn't from the history has the same cursor, too.
pub record IsBackAt (w v : EditorState) : Type 0 where
  pub place : v.back ≡ w.back
  pub text : line_text v.line ≡ line_text w.line
  pub line : w.back ≡ 0 → v.line ≡ w.line
  pub past : v.past ≡ w.past
  pub undone : v.undone ≡ w.undone

-- Going back in the history and forth again as often gives the line that was left, if there are so many lines. So an
-- edited line of the history keeps its edit.
abbrev pub ComesBack : ℕ → EditorState → Type 0
ComesBack n w = w.back + n ≤ length w.history → IsBackAt w (newer_times n (older_times n w))

-- ---- undo

-- An action is one of the line if it is neither undo nor redo, and doesn't go to another line, which has its own changes.
abbrev pub IsOfLine : Action → Type 0
IsOfLine Undo = ⊥
IsOfLine Redo = ⊥
IsOfLine Older = ⊥
IsOfLine Newer = ⊥
IsOfLine RowUp = ⊥
IsOfLine RowDown = ⊥
IsOfLine Search = ⊥
IsOfLine SearchForward = ⊥
IsOfLine action = ⊤

-- Each action is one of the line.
abbrev pub ArePlain : List Action → Type 0
ArePlain [] = ⊤
ArePlain (a ∷ actions) = IsOfLine a × ArePlain actions

-- The editor after `n` undos.
abbrev pub undo_times : ℕ → EditorState → EditorState
undo_times zero w = w
undo_times (suc n) w = undo_times n (after Undo w)

-- After such actions, for which there are steps enough, some number of undos gives back the text and all that could
-- be undone before.
-- No character may have been typed just before these actions.
abbrev pub CanBeUndone : List Action → EditorState → Type 0
CanBeUndone actions w =
    ArePlain actions → w.typing ≡ false → length w.past + length actions ≤ w.limits.steps
    → (n : ℕ) × (line_text (undo_times n (run_actions actions w)).line ≡ line_text w.line) × ((undo_times n (run_actions actions w)).past ≡ w.past)

-- A redo gives back what an undo took. Then nothing goes on with what was done before.
abbrev pub RedoesUndone : EditorState → Type 0
RedoesUndone w = (d : Split) (past : List Split) → w.past ≡ d ∷ past → after Redo (after Undo w) ≡ record w { typing = false; last = Other }

-- ---- searches

-- A text contains a pattern exactly if the pattern is a piece of it.
pub record FindsPiece (pattern text : List ℕ) : Type 0 where
  pub found : contains pattern text ≡ true → (front : List ℕ) × (back : List ℕ) × (text ≡ front ++ (pattern ++ back))
  pub missed : contains pattern text ≡ false → (front back : List ℕ) → text ≡ front ++ (pattern ++ back) → ⊥

-- A line that is looked for has this number, and none of those before it is looked for.
pub record IsNearest (is : List ℕ → Bool) (passed number : ℕ) (lines : List Split) : Type 0 where
  pub front : List Split
  pub line : Split
  pub back : List Split
  pub are : lines ≡ front ++ line ∷ back
  pub count : number ≡ passed + (length front + 1)
  pub before : AllByRecursion (λ d. is (line_text d) ≡ false) front
  pub here : is (line_text line) ≡ true

-- A search back finds the nearest line that is looked for, and `None` if no line is.
abbrev pub FindsNearest : (List ℕ → Bool) → ℕ → List Split → Type 0
FindsNearest is passed lines =
    MatchOption (first_number is passed lines) (AllByRecursion (λ d. is (line_text d) ≡ false) lines) (λ number. IsNearest is passed number lines)

-- Of the first `n` lines, this one has the number, is looked for, and none behind it is looked for.
pub record IsNearestNewer (is : List ℕ → Bool) (n number : ℕ) (lines : List Split) : Type 0 where
  pub line : Split
  pub at : slice_get lines (number - 1) ≡ Some line
  pub first : 0 < number
  pub within : number ≤ n
  pub here : is (line_text line) ≡ true
  pub between : (k : ℕ) → number ≤ k → k < n → is_wanted is (slice_get lines k) ≡ false

-- A search forward finds the nearest newer line that is looked for, and `None` if no newer line is.
abbrev pub FindsNewer : (List ℕ → Bool) → ℕ → List Split → Type 0
FindsNewer is n lines =
    MatchOption (last_number is n lines) ((k : ℕ) → k < n → is_wanted is (slice_get lines k) ≡ false) (λ number. IsNearestNewer is n number lines)
