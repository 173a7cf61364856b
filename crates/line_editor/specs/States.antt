-- The state of an editor, and how each action changes it.
use Rattle.std.specs.Prelude.{⊤, ℕ, ◌+◌, ◌-◌, nat_lt, Bool, true, false, List, [], ◌∷◌, Option, Some, None, if◌then◌else◌, slice_get, drop, length, take, reverse, ◌==◌, ◌&&◌, ◌||◌}
use Rattle.std.specs.Prelude.{zero, suc}
use Rattle.std.specs.Option.{option_and_then, option_map}
use Rattle.std.specs.Str.{bytes_eq}
use Rattle.line_editor.specs.declared.actions.Action.{Action}
use Rattle.line_editor.specs.declared.actions.Action.TheVariants as does
use Rattle.line_editor.specs.declared.actions.Case.{Case}
use Rattle.line_editor.specs.declared.last.Last.{Last}
use Rattle.line_editor.specs.declared.last.Last.TheVariants.{Killed, Other, Took, Walked, Yanked}
use Rattle.line_editor.specs.declared.limits.Limits.{Limits}
use Rattle.line_editor.specs.declared.places.Stop.TheVariants.{Edge, WordEnd}
use Rattle.line_editor.specs.declared.places.Target.{Target}
use Rattle.line_editor.specs.declared.places.Target.TheVariants.{Forward}
use Rattle.line_editor.specs.Splits.{Split, line_text}
use Rattle.line_editor.specs.Edits.{cut_text, empty_line, erased, inserted, line_with, meeting, settled, transposed}
use Rattle.line_editor.specs.Edits.{has_two_words, is_beside_blank, last_word, without_blanks, words_transposed}
use Rattle.line_editor.specs.Cases.{recased}
use Rattle.line_editor.specs.Kills.{kill_at, kills_with, next_place}
use Rattle.line_editor.specs.Places.{target_place}
use Rattle.line_editor.specs.Rows.{row_place}
use Rattle.line_editor.specs.Shown.{comes_in, pasted_part}

-- An incremental search: what it looks for, and the line from which it began with its place in the history.
pub record LineSearch : Type 0 where
  pub pattern : Split
  pub line : Split
  pub back : ℕ

-- A search that looks for nothing.
abbrev pub no_search : LineSearch
no_search = record { pattern = empty_line; line = empty_line; back = 0 }

-- A line with the lines that undo and redo bring back, the newest first.
pub record DraftState : Type 0 where
  pub line : Split
  pub past : List Split
  pub undone : List Split
  -- Whether a character was typed last, which is undone with the next one.
  pub typing : Bool

-- A line that was left for another one, with its place. That is how far back in the history it is, or 0 if it isn't from
-- there.
pub record LeftLine : Type 0 where
  pub place : ℕ
  pub draft : DraftState

-- An editor: its line, and what came before it.
pub record EditorState : Type 0 where
  -- The limits of all that follows.
  pub limits : Limits
  pub line : Split
  -- The texts that were killed, the newest first. Kills side by side are one text.
  pub kills : List (List ℕ)
  -- How many kills are newer than the one that a yank writes.
  pub yank_at : ℕ
  -- The lines that undo and redo bring back, the newest first.
  pub past : List Split
  pub undone : List Split
  -- The lines that were accepted, the newest first.
  pub history : List Split
  -- How far back in the history the line is from, or 0 if it isn't from there.
  pub back : ℕ
  -- The lines that were left for others since the last one was accepted, the last one first.
  pub left : List LeftLine
  -- The last incremental search.
  pub search : LineSearch
  -- Whether a character was typed last, which is undone with the next one.
  pub typing : Bool
  -- The last action, as far as the next one goes on with it.
  pub last : Last

-- A fresh editor has an empty line, and nothing came before it.
abbrev pub fresh : Limits → EditorState
fresh limits = record {
  limits = limits;
  line = empty_line;
  kills = [];
  yank_at = 0;
  past = [];
  undone = [];
  history = [];
  back = 0;
  left = [];
  search = no_search;
  typing = false;
  last = Other;
}

-- ---- changes of the line

-- The lines that can be undone after a change: this one and those before, the newest first, up to the limit of steps.
abbrev pub pushed : EditorState → List Split
pushed w = take w.limits.steps (w.line ∷ w.past)

-- The editor with another line, and the line before it can be undone.
abbrev pub changed : Split → EditorState → EditorState
changed d w = record w { line = d; past = pushed w; undone = []; typing = false }

-- The editor after a character was typed. It is undone together with the characters that were typed just before it.
abbrev pub after_typing : Split → EditorState → EditorState
after_typing d w = record w { line = d; past = if w.typing then w.past else pushed w; undone = []; typing = true }

-- The editor with its cursor elsewhere.
abbrev pub moved : Split → EditorState → EditorState
moved d w = record w { line = d; typing = false }

-- ---- what is written

-- The editor after a character is typed, which does nothing if the character doesn't come into a line.
abbrev pub type_char : ℕ → EditorState → EditorState
type_char c w = if comes_in w.limits.multiline c then after_typing (inserted (c ∷ []) w.line) w else w

-- The editor after a text is written at the cursor. An empty text does nothing.
abbrev pub write : List ℕ → EditorState → EditorState
write [] w = w
write (c ∷ text) w = changed (inserted (c ∷ text) w.line) w

-- The editor after a paste: what of it comes into a line is written.
abbrev pub pasted_into : List ℕ → EditorState → EditorState
pasted_into text w = record (write (pasted_part w.limits.multiline text) w) { last = Other }

-- ---- what is erased

-- The editor after the part that a target reaches is erased. An empty part does nothing.
abbrev pub erase_cut : List ℕ → Target → EditorState → EditorState
erase_cut [] target w = w
erase_cut (c ∷ text) target w = changed (erased target w.line) w

-- The editor after the part that a target reaches is erased and is the newest kill. An empty part does nothing.
abbrev pub kill_cut : List ℕ → Target → EditorState → EditorState
kill_cut [] target w = w
kill_cut (c ∷ text) target w =
    record (changed (erased target w.line) w) { kills = kills_with w.limits.kills w.last target (c ∷ text) w.kills; yank_at = 0 }

-- The editor after two clusters are transposed. If nothing is before their meeting place, nothing happens.
abbrev pub transpose_at : List ℕ → EditorState → EditorState
transpose_at [] w = w
transpose_at (c ∷ before) w = changed (transposed w.line) w

-- ---- undo

-- The editor with the newest line of the past, if there is one. The line before it can be redone.
abbrev pub undo_to : List Split → EditorState → EditorState
undo_to [] w = w
undo_to (d ∷ past) w = record w { line = d; past = past; undone = w.line ∷ w.undone; typing = false }

-- The editor with the line that was undone last, if there is one. The line before it can be undone.
abbrev pub redo_to : List Split → EditorState → EditorState
redo_to [] w = w
redo_to (d ∷ undone) w = record w { line = d; past = w.line ∷ w.past; undone = undone; typing = false }

-- ---- history

-- The line of an editor, with what can be undone and redone of it.
abbrev pub draft_of : EditorState → DraftState
draft_of w = record { line = w.line; past = w.past; undone = w.undone; typing = w.typing }

-- An editor with such a line.
abbrev pub with_draft : DraftState → EditorState → EditorState
with_draft x w = record w { line = x.line; past = x.past; undone = x.undone; typing = x.typing }

-- A line of which nothing can be undone yet.
abbrev pub new_draft : Split → DraftState
new_draft d = record { line = d; past = []; undone = []; typing = false }

-- Another line, with up to so many lines that can be undone: the line before it, and those before that.
abbrev pub draft_changed : ℕ → Split → DraftState → DraftState
draft_changed steps d x = record { line = d; past = take steps (x.line ∷ x.past); undone = []; typing = false }

-- A line as another one has it. If both have the same text the cursor goes there, and otherwise this is a change.
abbrev pub shown_as : ℕ → Split → DraftState → DraftState
shown_as steps d x = if bytes_eq (line_text d) (line_text x.line) then record x { line = d; typing = false } else draft_changed steps d x

-- The line that was left at a place, if one was.
abbrev pub left_at : ℕ → List LeftLine → Option Split
left_at place [] = None
left_at place (x ∷ left) = if x.place == place then Some x.draft.line else left_at place left

-- The lines that were left, without the one of a place.
abbrev pub left_but : ℕ → List LeftLine → List LeftLine
left_but place [] = []
left_but place (x ∷ left) = if x.place == place then left else x ∷ left_but place left

-- The line that was left at a place, as another line has it. If none was left there, nothing can be undone of that yet.
abbrev pub draft_at : ℕ → ℕ → Split → List LeftLine → DraftState
draft_at steps place d [] = new_draft d
draft_at steps place d (x ∷ left) = if x.place == place then shown_as steps d x.draft else draft_at steps place d left

-- The editor with a line of some place in the history. The line that is left for it keeps what can be undone of it, and
-- so does one that was left there before.
abbrev pub brought_to : ℕ → Split → EditorState → EditorState
brought_to place d w =
    if place == w.back then with_draft (shown_as w.limits.steps d (draft_of w)) w
    else record (with_draft (draft_at w.limits.steps place d w.left) w) {
      left = record { place = w.back; draft = draft_of w } ∷ left_but place w.left;
      back = place;
    }

-- A line, or another one if there is none.
abbrev pub line_or : Split → Option Split → Split
line_or d None = d
line_or d (Some e) = e

-- The line at a place, as it was left or accepted. `None` if there is no such place. A line of the history has its
-- cursor at its end.
abbrev pub line_at : ℕ → EditorState → Option Split
line_at zero w = Some (line_or empty_line (left_at 0 w.left))
line_at (suc at) w = option_map (λ d. target_place (Forward Edge) (line_or d (left_at (suc at) w.left))) (slice_get w.history at)

-- The editor with the line of a place, if there is one.
abbrev pub gone_to : ℕ → Option Split → EditorState → EditorState
gone_to place None w = w
gone_to place (Some d) w = brought_to place d w

-- The editor after going to the next newer line. If its line isn't from the history, nothing happens.
abbrev pub newer_from : ℕ → EditorState → EditorState
newer_from zero w = w
newer_from (suc back) w = gone_to back (line_at back w) w

-- The place in the row above or below. `None` if there is no such row, or if lines have one row.
abbrev pub row_beside : Bool → EditorState → Option Split
row_beside up w = if w.limits.multiline then row_place up w.line else None

-- The editor with its cursor at a place in another row, or another editor if there is no such row.
abbrev pub by_row : Option Split → EditorState → EditorState → EditorState
by_row None other w = other
by_row (Some d) other w = moved d w

-- The rest of a text that begins with another one, or `None` if it doesn't.
abbrev pub behind_front : List ℕ → List ℕ → Option (List ℕ)
behind_front [] text = Some text
behind_front (c ∷ front) [] = None
behind_front (c ∷ front) (d ∷ text) = if c == d then behind_front front text else None

-- The text that a yank writes.
abbrev pub yanked : EditorState → List ℕ
yanked w = kill_at w.kills w.yank_at

-- The place of the kill that follows the yanked one in the ring.
abbrev pub next_yank : EditorState → ℕ
next_yank w = next_place w.yank_at (length w.kills)

-- The characters before a text that was yanked last, nearest first, if the text is before the cursor. `None` otherwise.
abbrev pub before_yanked : Last → List ℕ → List ℕ → Option (List ℕ)
before_yanked Yanked text before = behind_front (reverse text) before
before_yanked last text before = None

-- The characters before the yanked text in the line.
abbrev pub before_yank : EditorState → Option (List ℕ)
before_yank w = before_yanked w.last (yanked w) w.line.before

-- The editor with the next kill of the ring in place of the yanked text, if it is known what is before that.
abbrev pub popped_to : Option (List ℕ) → EditorState → EditorState
popped_to None w = w
popped_to (Some before) w =
    record (changed (line_with (record { before = before; after = [] }) (kill_at w.kills (next_yank w)) w.line) w) { yank_at = next_yank w }

-- The rest of a text behind a front. `None` if it doesn't begin with that, or if it is the text that is shown.
abbrev pub other_rest : List ℕ → List ℕ → List ℕ → Option (List ℕ)
other_rest front shown text = if bytes_eq text shown then None else behind_front front text

-- The rest that was found with its place in the history, or what else was found.
abbrev pub rest_or : Option (List ℕ) → ℕ → Option (ℕ × List ℕ) → Option (ℕ × List ℕ)
rest_or (Some rest) back other = Some (back, rest)
rest_or None back other = other

-- The first of the lines that begins with a text and isn't the line that is shown. It is given by its place behind
-- `passed` others and the rest of it. `None` if there is none.
abbrev pub first_with : List ℕ → List ℕ → ℕ → List Split → Option (ℕ × List ℕ)
first_with front shown passed [] = None
first_with front shown passed (d ∷ lines) =
    rest_or (other_rest front shown (line_text d)) (passed + 1) (first_with front shown (passed + 1) lines)

-- The text that a search looks for if this text is before the cursor: nothing after a search for any line.
abbrev pub sought_by : Last → List ℕ → List ℕ
sought_by Walked text = []
sought_by last text = text

-- The text that a search looks for at the beginning of lines.
abbrev pub sought : EditorState → List ℕ
sought w = sought_by w.last (reverse w.line.before)

-- The next older line that begins with what is looked for, and is another than the line: its place, and the rest of
-- it. `None` if there is none.
abbrev pub found : EditorState → Option (ℕ × List ℕ)
found w = first_with (sought w) (line_text w.line) w.back (drop w.back w.history)

-- The line that was found: a text that was looked for, and the rest. The cursor is behind the text, or at the end if
-- nothing was looked for.
abbrev pub found_line : List ℕ → List ℕ → Split
found_line [] rest = record { before = reverse rest; after = [] }
found_line (c ∷ front) rest = settled (record { before = reverse (c ∷ front); after = rest })

-- The rest of the line at a place of the history, counted from 0, behind a front. `None` if no line is there, if it
-- doesn't begin with that, or if it is the line that is shown.
abbrev pub rest_at : List ℕ → List ℕ → ℕ → List Split → Option (List ℕ)
rest_at front shown at lines = option_and_then (λ d. other_rest front shown (line_text d)) (slice_get lines at)

-- The last of the first `n` lines that begins with a text and isn't the line that is shown. It is given by its number
-- from 1 and the rest of it. `None` if there is none.
abbrev pub last_with : List ℕ → List ℕ → ℕ → List Split → Option (ℕ × List ℕ)
last_with front shown zero lines = None
last_with front shown (suc n) lines = rest_or (rest_at front shown n lines) (n + 1) (last_with front shown n lines)

-- The next newer line that begins with what is looked for, and is another than the line. `None` if there is none.
abbrev pub found_newer : EditorState → Option (ℕ × List ℕ)
found_newer w = last_with (sought w) (line_text w.line) (w.back - 1) w.history

-- The editor with a line that was found, if there is one.
abbrev pub searched_to : Option (ℕ × List ℕ) → EditorState → EditorState
searched_to None w = w
searched_to (Some found) w = brought_to found.0 (found_line (sought w) found.1) w

-- The editor after a search forward for a text. If there is none, the next newer line is shown.
abbrev pub searched_forward : List ℕ → EditorState → EditorState
searched_forward [] w = newer_from w.back w
searched_forward (c ∷ front) w = searched_to (found_newer w) w

-- ---- lines that are accepted

-- Whether a text has no characters.
abbrev pub is_empty : List ℕ → Bool
is_empty [] = true
is_empty (c ∷ text) = false

-- Whether a text begins with a blank.
abbrev pub begins_with_space : List ℕ → Bool
begins_with_space [] = false
begins_with_space (c ∷ text) = c == 32

-- Whether a text is that of the newest line.
abbrev pub is_newest : List ℕ → List Split → Bool
is_newest text [] = false
is_newest text (d ∷ lines) = bytes_eq text (line_text d)

-- Whether an accepted line isn't remembered: it is empty, or by the limits it begins with a blank or equals the newest.
abbrev pub is_ignored : Limits → List ℕ → List Split → Bool
is_ignored limits text history = is_empty text || ((limits.ignore_space && begins_with_space text) || (limits.ignore_dups && is_newest text history))

-- The history with an accepted line as its newest, up to the limit of lines, unless it isn't remembered.
abbrev pub remembered : Limits → Split → List ℕ → List Split → List Split
remembered limits d text history = if is_ignored limits text history then history else take limits.lines (target_place (Forward Edge) d ∷ history)

-- The editor after something with which no action goes on.
abbrev pub broken_off : EditorState → EditorState
broken_off w = record w { last = Other }

-- A fresh editor with the kills and the history of the one before.
abbrev pub dropped : EditorState → EditorState
dropped w = record (fresh w.limits) { kills = w.kills; yank_at = w.yank_at; history = w.history }

-- A fresh editor with the kills and the history of the one before, in which the accepted line is remembered.
abbrev pub accepted : EditorState → EditorState
accepted w = record (dropped w) { history = remembered w.limits w.line (line_text w.line) w.history }

-- ---- words

-- The editor after the part from the cursor to the next end of a word is brought into a case. An empty part does
-- nothing.
abbrev pub case_cut : Case → List ℕ → EditorState → EditorState
case_cut case [] w = w
case_cut case (c ∷ text) w = changed (recased case w.line) w

-- The editor with two words exchanged, if there are two.
abbrev pub transpose_words : EditorState → EditorState
transpose_words w = if has_two_words w.line then changed (words_transposed w.line) w else w

-- The editor without the white space around its cursor, if there is any.
abbrev pub erase_blanks : EditorState → EditorState
erase_blanks w = if is_beside_blank w.line then changed (without_blanks w.line) w else w

-- The last word of a line, or no text if there is no line.
abbrev pub last_word_of : Option Split → List ℕ
last_word_of None = []
last_word_of (Some d) = last_word d

-- The last word of the accepted line with so many newer ones, or no text if there is no such line.
abbrev pub word_at : ℕ → EditorState → List ℕ
word_at at w = last_word_of (slice_get w.history at)

-- The word that the last action took from an accepted line, or no text if it took none.
abbrev pub word_taken_by : Last → EditorState → List ℕ
word_taken_by (Took at) w = word_at at w
word_taken_by last w = []

-- The word that was taken last, or no text.
abbrev pub taken : EditorState → List ℕ
taken w = word_taken_by w.last w

-- How many lines are newer than the one of which the word is taken next. Each time it is one more, up to the place behind
-- the oldest line. At first it is the line just older than the one that is shown.
abbrev pub next_taken_by : Last → EditorState → ℕ
next_taken_by (Took at) w = if nat_lt at (length w.history) then at + 1 else at
next_taken_by last w = w.back

-- The same of an editor.
abbrev pub next_taken : EditorState → ℕ
next_taken w = next_taken_by w.last w

-- The word that is taken next.
abbrev pub next_word : EditorState → List ℕ
next_word w = word_at (next_taken w) w

-- The characters before the word that was taken last, nearest first, if the word is before the cursor. Otherwise `None`.
abbrev pub before_taken : EditorState → Option (List ℕ)
before_taken w = behind_front (reverse (taken w)) w.line.before

-- The editor with the next word in place of the one that was taken last, if it is known what is before that. If neither
-- has a character, nothing happens.
abbrev pub taken_to : Option (List ℕ) → EditorState → EditorState
taken_to None w = w
taken_to (Some before) w =
    if is_empty (taken w) && is_empty (next_word w) then w
    else changed (line_with (record { before = before; after = [] }) (next_word w) w.line) w

-- ---- actions

-- The editor after an action, but for what this is to the next one.
abbrev pub acted : Action → EditorState → EditorState
acted (does.Insert c) w = type_char c w
acted (does.Go target) w = moved (target_place target w.line) w
acted (does.Erase target) w = erase_cut (cut_text target w.line) target w
acted (does.Kill target) w = kill_cut (cut_text target w.line) target w
acted does.Yank w = write (yanked w) w
acted does.YankPop w = popped_to (before_yank w) w
acted does.Transpose w = transpose_at (meeting w.line.before w.line.after).before w
acted does.Undo w = undo_to w.past w
acted does.Redo w = redo_to w.undone w
acted does.Older w = gone_to (w.back + 1) (line_at (w.back + 1) w) w
acted does.Newer w = newer_from w.back w
acted does.RowUp w = by_row (row_beside true w) (gone_to (w.back + 1) (line_at (w.back + 1) w) w) w
acted does.RowDown w = by_row (row_beside false w) (newer_from w.back w) w
acted does.Search w = searched_to (found w) w
acted does.SearchForward w = searched_forward (sought w) w
acted (does.CaseWord case) w = case_cut case (cut_text (Forward WordEnd) w.line) w
acted does.TransposeWords w = transpose_words w
acted does.EraseBlanks w = erase_blanks w
acted does.LastWord w = taken_to (before_taken w) w

-- The last action after something that only rings the bell. Kills go on side by side, and nothing else does.
abbrev pub rung : Last → Last
rung Killed = Killed
rung last = Other

-- The last action after a turn of the ring: a yank, if there was one.
abbrev pub last_popped : Option (List ℕ) → Last → Last
last_popped None last = rung last
last_popped (Some before) last = Yanked

-- The last action after an action. A kill that cuts nothing is no kill, and a yank of nothing no yank.
abbrev pub last_after : Action → EditorState → Last
last_after does.Search w = if is_empty (sought w) then Walked else Other
last_after does.SearchForward w = if is_empty (sought w) then Walked else Other
last_after does.Yank w = if is_empty (yanked w) then Other else Yanked
last_after does.YankPop w = last_popped (before_yank w) w.last
last_after (does.Kill target) w = if is_empty (cut_text target w.line) then Other else Killed
last_after does.LastWord w = Took (next_taken w)
last_after action w = Other

-- The editor after an action.
abbrev pub after : Action → EditorState → EditorState
after action w = record (acted action w) { last = last_after action w }

-- The action only moves the cursor.
abbrev pub IsMove : Action → Type 0
IsMove (does.Go target) = ⊤
IsMove action = ⊥

-- The editor after actions, one after another.
abbrev pub run_actions : List Action → EditorState → EditorState
run_actions [] w = w
run_actions (a ∷ actions) w = run_actions actions (after a w)
